-- What Rearrange and Put back answer and leave, for every input (docs/REQUIREMENTS.md).
use Rattle.std.specs.Prelude.{ℕ, ◌*◌, ◌^◌, Bool, ◌&&◌, List, [], eqb, leb, length}
use Rattle.code_theory.specs.Question.{ask, is_alphabet, is_variables, all_below, Answer, answer, after}
use Rattle.interleave_theory.specs.Place.{rearranged, put_back}

-- 14: is W from 1 to 16?
unfoldable pub is_group : ℕ → Bool
is_group count = leb 1 count && leb count 16

-- 7: is the slice exactly as long as W words of n = 2 ^ m symbols?
unfoldable pub is_group_size : ℕ → ℕ → List ℕ → Bool
is_group_size m count x = eqb (length x) (count * 2 ^ m)

-- both calls ask 1, 2, 14, 7 for the source, 7 for the target, and 8 for the source
unfoldable pub group_refusal : ℕ → ℕ → ℕ → List ℕ → List ℕ → ℕ
group_refusal q m count source target =
    ask (is_alphabet q) 1
    (ask (is_variables m) 2
    (ask (is_group count) 14
    (ask (is_group_size m count source) 7
    (ask (is_group_size m count target) 7
    (ask (all_below q source) 8
    0)))))

-- they answer no values
unfoldable pub group_answer : ℕ → ℕ → ℕ → List ℕ → List ℕ → Answer
group_answer q m count source target = answer (group_refusal q m count source target) []

-- the target slice after Rearrange, and after Put back
unfoldable pub rearrange_target : ℕ → ℕ → ℕ → List ℕ → List ℕ → List ℕ
rearrange_target q m count source target = after (group_refusal q m count source target) (rearranged count (2 ^ m) source) target

unfoldable pub put_back_target : ℕ → ℕ → ℕ → List ℕ → List ℕ → List ℕ
put_back_target q m count source target = after (group_refusal q m count source target) (put_back count (2 ^ m) source) target
