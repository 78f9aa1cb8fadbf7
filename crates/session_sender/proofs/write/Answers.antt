-- `write` meets its contract: the writer of codewords gets the copy.
use mathlib.Core.Path.{refl}
use native.Mathlib.Omega.{arith}
use Rattle.session_sender.proofs.CopyLaws.{message_fits, copy_fits, copy_written}
use Rattle.session_sender.proofs.write.Goals as goal

pub place-requires : goal.place-requires
place-requires c = message_fits _ _ _ _ _ c.requires

pub write-requires : goal.write-requires
write-requires c =
    let s = c.requires in
    copy_fits _ _ _ _ _ _ _ _ s c.place.ensures (omega (arith, s.below)) refl

pub returns : goal.returns
returns c =
    copy_written _ _ _ _ _ _ _ _ c.requires c.place.ensures _ c.write.ensures
