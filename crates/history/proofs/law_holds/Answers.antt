use Rattle.history.proofs.Lawful.{lawful}
use Rattle.history.proofs.law_holds.Goals as goal

pub returns : goal.returns
returns g c =
    let met = g.met.L.Line in
    lawful g.L.Line.kind met.back met.detects met.range c.args.identity
