-- One soft vote and the soft read, for every input (docs/REQUIREMENTS.md: Soft samples).
use Rattle.std.specs.Prelude.{ℕ, zero, suc, ◌+◌, ◌%◌, ◌^◌, Bool, ◌&&◌, List, [], map, eqb, ltb, length, get_or}
use Rattle.code_theory.specs.Sum.{every, tabulate}
use Rattle.code_theory.specs.Index.{bit}
use Rattle.code_theory.specs.Code.{linear, codeword}
use Rattle.code_theory.specs.Question.{ask, is_variables, is_message_size, Answer, answer, after}
use Rattle.soft_theory.specs.Numbers.{Numbers}
use Rattle.soft_theory.specs.Complex.{Complex, sample, term, turn_back, sums, ideal}
use Rattle.soft_theory.specs.Decision.{Decision, refused, decide, is_sure, symbol}

-- the sums of the votes for coefficient k: each index i whose bit k is 0, with the partner at i + 2 ^ k
unfoldable pub vote_sums : {A : Type 0} → Numbers A → ℕ → ℕ → (ℕ → Complex A) → Complex A
vote_sums N m k y = sums N (2 ^ m) (bit k) (λ i. term N (y (i + 2 ^ k)) (y i))

-- coefficient k as it is decided
unfoldable pub coefficient : {A : Type 0} → Numbers A → ℕ → (ℕ → Complex A) → ℕ → ℕ
coefficient N m y k = symbol (decide N (vote_sums N m k y))

-- the sums of all samples, each turned back by the quarter turns that the coefficients c ask for
unfoldable pub constant_sums : {A : Type 0} → Numbers A → ℕ → (ℕ → ℕ) → (ℕ → Complex A) → Complex A
constant_sums N m c y = sums N (2 ^ m) (λ i. 0) (λ i. turn_back N (linear m c i % 4) (y i))

-- the decision for symbol k of the message: the constant at 0, coefficient k - 1 at k
unfoldable pub decision : {A : Type 0} → Numbers A → ℕ → (ℕ → Complex A) → ℕ → Decision A
decision N m y zero = decide N (constant_sums N m (coefficient N m y) y)
decision N m y (suc k) = decide N (vote_sums N m k y)

-- the message that the decisions give
unfoldable pub soft_message : {A : Type 0} → Numbers A → ℕ → (ℕ → Complex A) → List ℕ
soft_message N m y = tabulate (suc m) (λ k. symbol (decision N m y k))

-- whether a part of a sample lies from -127 to 127
unfoldable pub in_range : {A : Type 0} → Numbers A → A → Bool
in_range N x = N.le (N.neg (N.number 127)) x && N.le x (N.number 127)

-- 10: does every part lie from -127 to 127?
unfoldable pub all_in_range : {A : Type 0} → Numbers A → List A → Bool
all_in_range N x = every (length x) (λ i. in_range N (get_or x i (N.number 0)))

-- 11: are all soft decisions sure?
unfoldable pub all_sure : {A : Type 0} → Numbers A → ℕ → (ℕ → Complex A) → Bool
all_sure N m y = every (suc m) (λ k. is_sure (decision N m y k))

-- one soft vote asks 2, 7, 10, 12
unfoldable pub vote_refusal : {A : Type 0} → Numbers A → ℕ → ℕ → List A → List A → ℕ
vote_refusal N m k re im =
    ask (is_variables m) 2
    (ask (eqb (length re) (2 ^ m)) 7
    (ask (eqb (length im) (2 ^ m)) 7
    (ask (all_in_range N re && all_in_range N im) 10
    (ask (ltb k m) 12
    0))))

-- the answer of a vote by the number that the questions give
unfoldable pub vote_answer : {A : Type 0} → ℕ → Decision A → Decision A
vote_answer zero decided = decided
vote_answer (suc n) decided = refused (suc n)

-- the answer of one soft vote
unfoldable pub soft_vote : {A : Type 0} → Numbers A → ℕ → ℕ → List A → List A → Decision A
soft_vote N m k re im = vote_answer (vote_refusal N m k re im) (decide N (vote_sums N m k (sample N re im)))

-- soft read asks 2, 5, 7, 10, 11
unfoldable pub read_refusal : {A : Type 0} → Numbers A → ℕ → List ℕ → List A → List A → ℕ
read_refusal N m message re im =
    ask (is_variables m) 2
    (ask (is_message_size m message) 5
    (ask (eqb (length re) (2 ^ m)) 7
    (ask (eqb (length im) (2 ^ m)) 7
    (ask (all_in_range N re && all_in_range N im) 10
    (ask (all_sure N m (sample N re im)) 11
    0)))))

-- soft read answers no values
unfoldable pub read_answer : {A : Type 0} → Numbers A → ℕ → List ℕ → List A → List A → Answer
read_answer N m message re im = answer (read_refusal N m message re im) []

-- the message slice after a soft read
unfoldable pub read_message : {A : Type 0} → Numbers A → ℕ → List ℕ → List A → List A → List ℕ
read_message N m message re im = after (read_refusal N m message re im) (soft_message N m (sample N re im)) message

-- the real and the imaginary parts of the ideal samples of the word of the message t
unfoldable pub clean_re : {A : Type 0} → Numbers A → ℕ → List ℕ → List A
clean_re N m t = map (λ s. (ideal N s).re) (codeword 4 m t)

unfoldable pub clean_im : {A : Type 0} → Numbers A → ℕ → List ℕ → List A
clean_im N m t = map (λ s. (ideal N s).im) (codeword 4 m t)
