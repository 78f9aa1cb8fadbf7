-- `list_session` keeps within the buffer: the header is 26 bytes long.
use mathlib.Core.Path.{◌≡◌, refl}
use native.Mathlib.Omega.{arith}
use lib.ListN.{length}
use Rattle.text_buffer.specs.Text.{bytes, spaced}
use Rattle.list_line.specs.Listing.{header}
use Rattle.session_list.proofs.list_session.Goals as goal

header_length : length header ≡ 26
unfolding header spaced bytes
header_length = refl

pub write-requires : goal.write-requires
write-requires c = omega (arith, header_length)
