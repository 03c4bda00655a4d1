use Rattle.std.proofs.Common.{rules}
use Rattle.page.proofs.Writing.{front_reads_back}
use Rattle.page.proofs.write.write_page.Goals as goal

pub returns-clause-read_back : goal.returns-clause-read_back
returns-clause-read_back g c = search (rules, front_reads_back (g.S.Screen.grid c.args.screen.now) c.args.cursor (g.S.Screen.sound c.args.screen.now) (search rules) c.args.area.now)
