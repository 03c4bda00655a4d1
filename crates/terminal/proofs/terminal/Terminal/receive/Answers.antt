use Rattle.std.proofs.Common.{◌++◌, length, drop, Err, sym, refl, subst}
use Rattle.area.specs.declared.Refusal.TheVariants.{ShortArea}
use Rattle.console.specs.declared.fault.OctetRefusal.TheVariants.{Area}
use Rattle.history.specs.Trace.{octet}
use Rattle.history.proofs.Lawful.{follows}
use Rattle.station.specs.Terminal.{taken, received}
use Rattle.terminal.specs.Does.{Does}
use Rattle.terminal.specs.Meaning.{state_of}
use Rattle.terminal.specs.Seen.{seen_octet}
use Rattle.terminal.proofs.Front.{written_over}
use Rattle.terminal.proofs.Told.{octet_seen, received_short, received_taken}
use Rattle.terminal.proofs.terminal.Terminal.receive.Goals as goal

pub returns-in_default-clause-law : goal.returns-in_default-clause-law
returns-in_default-clause-law g c =
    let m = g.met.L.Line in
    let k = g.L.Line.kind in
    let id = c.args.self.now.identity in
    let before = c.args.area.now in
    let s = state_of g.L.Line.wants g.S.Screen.grid c.args.self.now in
    let r = Err (Area ShortArea) in
    let does =
    subst (λ o. Does o r before before s) (sym (received_short k id c.args.octet (length before) s c.in_default.ensures.cases)) (record { answer = refl; area = refl; after = refl }) in
    follows k m.back m.detects m.range id (octet c.args.octet (length before)) s (seen_octet r before s) (octet_seen k id c.args.octet before s r before s does)

pub returns : goal.returns
returns g c =
    let m = g.met.L.Line in
    let k = g.L.Line.kind in
    let id = c.args.self.now.identity in
    let before = c.args.area.now in
    let after = c.take.new.area ++ drop 5800 before in
    let s = state_of g.L.Line.wants g.S.Screen.grid c.args.self.now in
    let t = state_of g.L.Line.wants g.S.Screen.grid c.take.new.self in
    let e = c.take.ensures in
    let chunk = c.in-Some.ensures.cases in
    let written = written_over 5800 (taken k id c.args.octet s).reply before c.in-Some.room.now c.take.new.area chunk.enough chunk.same e.room e.does.area in
    let does : Does (received k id c.args.octet (length before) s) c.take.result before after t =
    subst (λ o. Does o c.take.result before after t) (sym (received_taken k id c.args.octet (length before) s chunk.enough)) (record { answer = e.does.answer; area = written; after = e.does.after }) in
    record {
      same = e.same;
      does = does;
      law =
          follows k m.back m.detects m.range id (octet c.args.octet (length before)) s (seen_octet c.take.result after t)
          (octet_seen k id c.args.octet before s c.take.result after t does);
    }
