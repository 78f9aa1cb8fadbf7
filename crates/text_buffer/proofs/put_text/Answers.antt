-- `put_text` meets its contract: the text is copied over as many bytes.
use Rattle.std.proofs.Common.{arith, rules}
use Rattle.std.proofs.lemmas.Slice.{overwrites}
use Rattle.text_buffer.proofs.PutLaws.{put_copy}
use Rattle.text_buffer.proofs.put_text.Goals as goal

pub returns-clause-buffer : goal.returns-clause-buffer
returns-clause-buffer c =
    put_copy c.args.out.now _ c.args.at _ c.args.text.now _ (omega arith) (cc) (search (rules, overwrites)) (search (rules, overwrites))
