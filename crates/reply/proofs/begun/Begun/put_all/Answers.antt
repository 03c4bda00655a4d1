use Rattle.std.proofs.Common.{rules}
use Rattle.reply.proofs.Sending.{extends}
use Rattle.reply.proofs.begun.Begun.put_all.Goals as goal

pub returns-clause-extends : goal.returns-clause-extends
returns-clause-extends g c = λ before first sent h. extends g.L.Line.kind before first sent c.args.self c.args.area.now _ h c.args.characters.now _ _ (search rules) (search rules) (search rules)
