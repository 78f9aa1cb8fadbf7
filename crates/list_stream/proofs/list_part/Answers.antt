-- `list_part` meets its contract: what is left of the bytes is fed.
use Rattle.text_chunks.proofs.PartLaws.{remaining}
use Rattle.list_stream.proofs.RoundLaws.{part_fed}
use Rattle.list_stream.proofs.list_part.Goals as goal

pub returns : goal.returns
unfolding remaining
returns c =
    let e = c.feed-fed.ensures in
    part_fed _ _ _ _ _ c.args.at c.feed-fed.result.read c.feed-fed.result.written c.feed-fed.result.lister _ c.requires.1 e.read e.state e.count e.buffer
    e.bounds.1 e.fit c.after_part.ensures
