use Rattle.std.proofs.Common.{rules}
use Rattle.reply.proofs.Sending.{shows}
use Rattle.reply.proofs.begun.Begun.close.Goals as goal

pub returns-clause-ends : goal.returns-clause-ends
returns-clause-ends g c = λ before first sent h. shows g.L.Line.kind before first sent c.args.self c.args.area.now _ h _ (search rules) (search rules)
