-- `keep` meets its contract: as many bytes are copied behind those that are kept as there is room for.
use Rattle.std.proofs.Common.{arith, sym, ap, ◌∙◌, take, ◌++◌, ◌-◌}
use lib.Seq.{length-take-le}
use Rattle.std.proofs.lemmas.List.{take_min}
use Rattle.std.proofs.lemmas.Slice.{take-put_mid}
use Rattle.text_chunks.specs.Kept.{kept_bytes}
use Rattle.text_chunks.specs.Internal.{keep_all}
use Rattle.text_chunks.proofs.KeepLaws.{keeps_first}
use Rattle.text_chunks.proofs.Line.keep.Goals as goal

pub returns : goal.returns
returns c =
    let l = c.self.inside in
    let part = c.args.part.now in
    let start = take l.len l.bytes.now in
    let size = length-take-le l.len l.bytes.now (omega (arith, c.self.invariant)) in
    take-put_mid l.len _ l.bytes.now _ _ (omega arith) (omega (arith, c.self.invariant))
    ∙ ap (λ t. start ++ t) (c.copy_from_slice.ensures.after ∙ ap (λ n. take n part) c.min-more.ensures ∙ take_min _ part ∙ ap (λ n. take n part) (omega arith))
    ∙ sym (keeps_first start part (17 - l.len) (omega (arith, size, c.self.invariant)))
    ∙ ap (λ k. keep_all (kept_bytes k) part) c.self.view_is
