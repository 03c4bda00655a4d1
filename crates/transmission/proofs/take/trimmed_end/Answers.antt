use Rattle.std.proofs.Common.{ℕ, ◌-◌, ◌+◌, rules, arith}
use Rattle.transmission.proofs.Parts.{one_back, trimming_no, trimming_yes, trimmed_whole, ending_stop}
use Rattle.transmission.proofs.take.trimmed_end.Goals as goal

pub returns-then-not-is_open_space : goal.returns-then-not-is_open_space
returns-then-not-is_open_space g c =
    let cs = (g.S.Screen.grid c.args.screen.now).cells in
    let kind = c.args.kind in
    let i : ℕ = c.loop-place.place - 1 in
    let t = one_back kind cs c.args.from c.loop-place.place c.args.to c.loop-place.left (omega arith) c.loop-place.invariant in
    let z = ending_stop kind cs c.args.from i (omega arith) (omega (arith, t.room)) (search rules) (search rules) in
    let q = trimmed_whole kind cs c.args.from (i + 1) c.args.to c.loop-place.left (omega (arith, t.room)) t z in
    record { left = q.0; stop = q.1; low = t.low; room = t.room }

pub loop-place-preserved-then-sends : goal.loop-place-preserved-then-sends
loop-place-preserved-then-sends g c =
    let cs = (g.S.Screen.grid c.args.screen.now).cells in
    let i : ℕ = c.loop-place.place - 1 in
    let t = one_back c.args.kind cs c.args.from c.loop-place.place c.args.to c.loop-place.left (omega arith) c.loop-place.invariant in
    trimming_yes c.args.kind cs c.args.from i c.args.to c.loop-place.left (omega arith) (omega (arith, t.room)) (omega (arith, t.room)) (search rules) (search rules) t

pub loop-place-preserved : goal.loop-place-preserved
loop-place-preserved g c =
    let cs = (g.S.Screen.grid c.args.screen.now).cells in
    let i : ℕ = c.loop-place.place - 1 in
    let t = one_back c.args.kind cs c.args.from c.loop-place.place c.args.to c.loop-place.left (omega arith) c.loop-place.invariant in
    trimming_no c.args.kind cs c.args.from i c.args.to c.loop-place.left (omega arith) (omega (arith, t.room)) (omega (arith, t.room)) (search rules) t
