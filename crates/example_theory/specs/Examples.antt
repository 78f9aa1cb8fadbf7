-- The twelve worked examples of docs/REQUIREMENTS.md that are marked P, as they follow each other there.
use Rattle.std.specs.Prelude.{ℕ, List, [], ◌∷◌, Option, Some, None, ℤ, pos, negsuc}
use Rattle.code_theory.specs.Question.{accepted, refused}
use Rattle.session_sender.specs.declared.Sender.{Sender}
use Rattle.session_receiver.specs.declared.Receiver.{Receiver}
use Rattle.soft_theory.specs.Complex.{Complex}
use Rattle.soft_theory.specs.Decision.{sure, unsure}
use Rattle.example_theory.specs.Case.{Case, writes, reads, doubtful, gathers, packs, decides, sends, receives, misses, both}

-- the message of examples 1 and 3 of HPL-98-195, its word, and the word received
abbrev pub message : List ℕ
message = 1 ∷ 1 ∷ 3 ∷ 0 ∷ 2 ∷ []

abbrev pub word : List ℕ
word = 1 ∷ 2 ∷ 0 ∷ 1 ∷ 1 ∷ 2 ∷ 0 ∷ 1 ∷ 3 ∷ 0 ∷ 2 ∷ 3 ∷ 3 ∷ 0 ∷ 2 ∷ 3 ∷ []

abbrev pub received : List ℕ
received = 1 ∷ 2 ∷ 1 ∷ 1 ∷ 1 ∷ 2 ∷ 0 ∷ 1 ∷ 3 ∷ 0 ∷ 2 ∷ 3 ∷ 3 ∷ 0 ∷ 2 ∷ 1 ∷ []

-- sessions for q 4, m 4 with so many slots used
abbrev pub sender : ℕ → ℕ → Sender
sender last used = record { q = 4; m = 4; last = last; used = used }

abbrev pub receiver : Option ℕ → ℕ → Receiver
receiver reference used = record { q = 4; m = 4; reference = reference; used = used }

-- the two sums of a soft vote
abbrev pub sums : ℤ → ℤ → Complex ℤ
sums re im = record { re = re; im = im }

-- the examples
abbrev pub examples : List Case
examples =
    writes 4 4 message word
    ∷ reads 4 4 received message 2 5
    ∷ gathers 4 4 3 received (2 ∷ 2 ∷ 1 ∷ 2 ∷ 2 ∷ 2 ∷ 2 ∷ 0 ∷ [])
    ∷ writes 8 3 (7 ∷ 5 ∷ 0 ∷ 1 ∷ []) (7 ∷ 4 ∷ 7 ∷ 4 ∷ 0 ∷ 5 ∷ 0 ∷ 5 ∷ [])
    ∷ reads 8 3 (7 ∷ 4 ∷ 7 ∷ 0 ∷ 0 ∷ 5 ∷ 0 ∷ 5 ∷ []) (7 ∷ 5 ∷ 0 ∷ 1 ∷ []) 1 2
    ∷ both (doubtful 2 2 (0 ∷ 0 ∷ 0 ∷ 1 ∷ [])) (reads 2 2 (0 ∷ 1 ∷ 1 ∷ 0 ∷ []) (0 ∷ 1 ∷ 1 ∷ []) 0 2)
    ∷ reads 4 4 (1 ∷ 1 ∷ 1 ∷ 0 ∷ 0 ∷ 0 ∷ 0 ∷ 0 ∷ 0 ∷ 0 ∷ 0 ∷ 0 ∷ 0 ∷ 0 ∷ 0 ∷ 0 ∷ []) (0 ∷ 0 ∷ 0 ∷ 0 ∷ 0 ∷ []) 3 2
    ∷ doubtful 4 4 (1 ∷ 1 ∷ 1 ∷ 1 ∷ 0 ∷ 0 ∷ 0 ∷ 0 ∷ 0 ∷ 0 ∷ 0 ∷ 0 ∷ 0 ∷ 0 ∷ 0 ∷ 0 ∷ [])
    ∷ doubtful 4 4 (0 ∷ 0 ∷ 0 ∷ 1 ∷ 0 ∷ 0 ∷ 0 ∷ 1 ∷ 0 ∷ 0 ∷ 0 ∷ 1 ∷ 0 ∷ 0 ∷ 0 ∷ 1 ∷ [])
    ∷ packs 141 1 message
    ∷ both
    (decides (sums (pos 300) (negsuc 199)) (sure 0 (sums (pos 300) (negsuc 199))))
    (both (decides (sums (pos 300) (pos 201)) (unsure (sums (pos 300) (pos 201)))) (decides (sums (pos 0) (pos 0)) (unsure (sums (pos 0) (pos 0)))))
    ∷ both
    (both (sends (sender 1 65536) (sender 1 65536) message (refused 4)) (sends (sender 1 65535) (sender 2 65536) message (accepted [])))
    (both
    (both (receives (receiver (Some 1) 65536) (receiver (Some 1) 65536) word (refused 4)) (receives (receiver (Some 1) 65535) (receiver (Some 1) 65536) word (accepted (0 ∷ 0 ∷ 8 ∷ 67107840 ∷ []))))
    (both (misses (receiver (Some 1) 65536) (receiver (Some 1) 65536) (refused 4)) (misses (receiver (Some 1) 65535) (receiver None 65536) (accepted []))))
    ∷ []
