-- `start` meets its contract: q = 4, m = 4 are not refused.
use mathlib.Core.Path.{refl, ◌∙◌}
use Rattle.list_stream.proofs.StreamLaws.{start_opened}
use Rattle.list_stream.proofs.start.Goals as goal

pub returns : goal.returns
returns c = (c.unwrap_or-receiver.ensures ∙ start_opened c.open.result c.open.ensures.session, refl)
