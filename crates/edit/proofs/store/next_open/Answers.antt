use Rattle.std.proofs.Common.{rules}
use Rattle.edit.proofs.Runs.{next_is}
use Rattle.edit.proofs.store.next_open.Goals as goal

pub returns-clause-value : goal.returns-clause-value
returns-clause-value g c = next_is (g.S.Screen.grid c.args.screen.now) c.args.from c.open_from.result c.or_else.result c.requires c.open_from.ensures (search rules)
