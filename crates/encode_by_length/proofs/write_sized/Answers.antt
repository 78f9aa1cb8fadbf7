-- `write_sized` meets its contract: where all questions are answered yes the word is written.
use Rattle.std.proofs.Common.{◌≡◌, sym, ◌∙◌}
use Rattle.code_theory.proofs.CodeLaws.{codeword_is}
use Rattle.code_questions.specs.Internal.{refusal}
use Rattle.encode_by_length.specs.Encoder.{encode_refusal}
use Rattle.encode_by_length.proofs.EncodeLaws.{all_fits, word_written}
use Rattle.encode_by_length.proofs.write_sized.Goals as goal

pub write-requires : goal.write-requires
unfolding refusal
write-requires c = (all_fits _ _ _ _ (sym c.in_ok-ask_slices.ensures)).0

pub returns-clause-buffer : goal.returns-clause-buffer
unfolding refusal
returns-clause-buffer c =
    let yes : let s = c.args in encode_refusal s.q s.m s.message.now s.word.now ≡ 0 = sym c.in_ok-ask_slices.ensures in
    let w = c.write.ensures in
    (word_written _ _ _ _ _ yes (codeword_is _ _ _ _ (w.size ∙ (all_fits _ _ _ _ yes).1) w.coded.each)).1
