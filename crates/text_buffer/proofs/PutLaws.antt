-- Pieces of text put into a buffer one after the other are put as one. Assumes nothing.
use Prim.Native.Nat.{ℕ, ◌+◌, ◌≤◌, ◌<◌}
use mathlib.Core.Path.{◌≡◌, ap, ap₂, sym, ◌∙◌}
use mathlib.Core.List.{List, [], ◌∷◌, ◌++◌, append_assoc}
use native.Mathlib.Nat.{add-zero, add_assoc}
use native.Mathlib.Numerals.{add-one}
use native.Mathlib.Omega.{arith}
use lib.ListN.{length, take, drop, set, get_or, length-append, length-take, length-drop, take-append-drop}
use lib.Seq.{set_split, take_at, drop_at, drop-drop, length-take-le, take-suc, take-append-le, take-take}
use borrow.Rule.Slice.PartMut.{put_mid}
use Rattle.text_buffer.specs.Text.{put}

-- nothing put changes nothing
pub put_none : (b : List ℕ) (at : ℕ) → put b at [] ≡ b
unfolding put
put_none b at = ap (λ n. take at b ++ drop n b) (add-zero at) ∙ take-append-drop at b

-- a buffer keeps its length
pub length_put : (b : List ℕ) (at : ℕ) (t : List ℕ) → at + length t ≤ length b → length (put b at t) ≡ length b
unfolding put
length_put b at t h = simp (length-append, length-take, length-drop) (omega arith)

-- a text that is put into a buffer of the same length had room
pub put_fits : (b : List ℕ) (at : ℕ) (t : List ℕ) → at ≤ length b → length (put b at t) ≡ length b → at + length t ≤ length b
unfolding put
put_fits b at t h e = omega (arith, simp (length-append, length-take, length-drop) at e)

-- what stands before the place where the text ends, and behind it
front : (b : List ℕ) (at : ℕ) (t : List ℕ) → at + length t ≤ length b → length (take at b ++ t) ≡ at + length t
front b at t h = simp (length-append, length-take) (omega arith)

take_put : (b : List ℕ) (at : ℕ) (t : List ℕ) → at + length t ≤ length b → take (at + length t) (put b at t) ≡ take at b ++ t
unfolding put
take_put b at t h = ap (take (at + length t)) (sym (append_assoc (take at b) t _)) ∙ take_at (take at b ++ t) _ (at + length t) (front b at t h)

drop_put : (b : List ℕ) (at : ℕ) (t : List ℕ) → at + length t ≤ length b → drop (at + length t) (put b at t) ≡ drop (at + length t) b
unfolding put
drop_put b at t h = ap (drop (at + length t)) (sym (append_assoc (take at b) t _)) ∙ drop_at (take at b ++ t) _ (at + length t) (front b at t h)

-- text put behind text is put as one
pub put_put : (b : List ℕ) (at : ℕ) (t u : List ℕ) → at + length t + length u ≤ length b → put (put b at t) (at + length t) u ≡ put b at (t ++ u)
unfolding put
put_put b at t u h =
    ap (λ l. l ++ (u ++ drop (at + length t + length u) (put b at t))) (take_put b at t (omega arith))
    ∙ ap (λ l. (take at b ++ t) ++ (u ++ l)) behind
    ∙ append_assoc (take at b) t _
    ∙ ap (λ l. take at b ++ l) (sym (append_assoc t u _))
    ∙ ap (λ n. take at b ++ ((t ++ u) ++ drop n b)) (add_assoc at (length t) (length u) ∙ ap (λ n. at + n) (sym (length-append t u)))
  where
    behind : drop (at + length t + length u) (put b at t) ≡ drop (at + length t + length u) b
    behind =
        sym (drop-drop (length u) (at + length t) (put b at t))
        ∙ ap (drop (length u)) (drop_put b at t (omega arith))
        ∙ drop-drop (length u) (at + length t) b

-- and text put before text
pub put_before : (b : List ℕ) (at : ℕ) (u t : List ℕ) → at + length u + length t ≤ length b → put (put b (at + length u) t) at u ≡ put b at (u ++ t)
unfolding put
put_before b at u t h =
    let n : length (take (at + length u) b) ≡ at + length u = length-take-le (at + length u) b (omega arith) in
    ap (λ l. l ++ (u ++ drop (at + length u) (put b (at + length u) t)))
    (take-append-le at (take (at + length u) b) _ (omega arith) ∙ take-take at (at + length u) b (omega arith))
    ∙ ap (λ l. take at b ++ (u ++ l)) (drop_at (take (at + length u) b) _ (at + length u) n)
    ∙ ap (λ l. take at b ++ l) (sym (append_assoc u t _))
    ∙ ap (λ k. take at b ++ ((u ++ t) ++ drop k b)) (add_assoc at (length u) (length t) ∙ ap (λ k. at + k) (sym (length-append u t)))

-- one byte stored is one put
pub put_one : (b : List ℕ) (at x : ℕ) → at < length b → set b at x ≡ put b at (x ∷ [])
unfolding put
put_one b at x h = set_split b at x h ∙ ap (λ n. take at b ++ (x ∷ drop n b)) (sym (add-one at))

-- one byte stored behind text is put with it
pub put_next : (b : List ℕ) (at : ℕ) (t : List ℕ) (x : ℕ) → at + length t < length b → set (put b at t) (at + length t) x ≡ put b at (t ++ (x ∷ []))
put_next b at t x h =
    let l = length_put b at t (omega arith) in
    put_one (put b at t) (at + length t) x (omega arith) ∙ put_put b at t (x ∷ []) (omega arith)

-- two bytes stored side by side
pub put_two : (b : List ℕ) (at x y v w : ℕ) → at + 2 ≤ length b → x ≡ v → y ≡ w → set (set b at x) (at + 1) y ≡ put b at (v ∷ w ∷ [])
put_two b at x y v w h e f =
    ap (λ l. set l (at + 1) y) (put_one b at x (omega arith)) ∙ put_next b at (x ∷ []) y (omega arith)
    ∙ ap (λ z. put b at (z ∷ y ∷ [])) e ∙ ap (λ z. put b at (v ∷ z ∷ [])) f

-- a text copied over the k bytes from a place on, whatever stood there before
pub put_copy : (b c : List ℕ) (at k : ℕ) (t new : List ℕ) → length t ≡ k → new ≡ t → take at c ≡ take at b → drop k (drop at c) ≡ drop (at + k) b
    → put_mid at k c new ≡ put b at t
unfolding put
put_copy b c at k t new n e f g = ap₂ (λ x y. x ++ y) f (ap₂ (λ x y. x ++ y) e (g ∙ ap (λ m. drop (at + m) b) (sym n)))

-- the next byte of a text stored behind those before it
pub put_byte : (b out : List ℕ) (at : ℕ) (t : List ℕ) (i : ℕ) → at + length t ≤ length b → i < length t → out ≡ put b at (take i t)
    → set out (at + i) (get_or t i 0) ≡ put b at (take (i + 1) t)
put_byte b out at t i room h e =
    let n : length (take i t) ≡ i = length-take-le i t (omega arith) in
    ap (λ l. set l (at + i) (get_or t i 0)) e
    ∙ ap (λ k. set (put b at (take i t)) (at + k) (get_or t i 0)) (sym n)
    ∙ put_next b at (take i t) (get_or t i 0) (omega arith)
    ∙ ap (put b at) (sym (take-suc t i 0 h) ∙ ap (λ k. take k t) (sym (add-one i)))

-- the place after a text, and the buffer with it
pub record Written (b : List ℕ) (at : ℕ) (text : List ℕ) (next : ℕ) (out : List ℕ) : Type 0 where
  pub place : next ≡ at + length text
  pub buffer : out ≡ put b at text

-- the same text in other words
pub written_as : {b : List ℕ} {at : ℕ} {t u : List ℕ} {next : ℕ} {out : List ℕ} → t ≡ u → Written b at t next out → Written b at u next out
written_as {b} {at} e w = record { place = w.place ∙ ap (λ l. at + length l) e; buffer = w.buffer ∙ ap (put b at) e }

-- one byte more stored behind a text
pub written_byte : (b : List ℕ) (at : ℕ) (t : List ℕ) (next x : ℕ) (out : List ℕ) → at + length t < length b → Written b at t next out
    → Written b at (t ++ (x ∷ [])) (next + 1) (set out next x)
written_byte b at t next x out h w =
    record {
      place = omega (arith, w.place, length-append t (x ∷ []));
      buffer = ap (λ l. set l next x) w.buffer ∙ ap (λ k. set (put b at t) k x) w.place ∙ put_next b at t x h;
    }

-- a text put behind a text
pub written_then : (b : List ℕ) (at : ℕ) (t u : List ℕ) (next end : ℕ) (mid out : List ℕ) → at + length t + length u ≤ length b
    → Written b at t next mid → Written mid next u end out → Written b at (t ++ u) end out
written_then b at t u next end mid out h w v =
    record {
      place = omega (arith, w.place, v.place, length-append t u);
      buffer = v.buffer ∙ ap (λ l. put l next u) w.buffer ∙ ap (λ k. put (put b at t) k u) w.place ∙ put_put b at t u h;
    }
