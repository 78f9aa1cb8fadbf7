-- `put_header` meets its contract: the text is the very bytes.
use Rattle.text_buffer.specs.Text.{bytes, spaced}
use Rattle.list_line.specs.Listing.{header}
use Rattle.list_line.proofs.put_header.Goals as goal

pub returns : goal.returns
unfolding header spaced bytes
returns c = c.put_text.ensures
