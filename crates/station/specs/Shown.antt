-- What the code's message actions stand for.
use Rattle.std.specs.Prelude.{Ok, Err, Result}
use Rattle.console.specs.declared.fault.MessageFault.{MessageFault}
use Rattle.station.specs.declared.action.MessageAction as code
use Rattle.station.specs.declared.action.MessageAction.TheVariants.{Poll, Repeat, CarryOut}
use Rattle.console.specs.Messages.{MessageAction, answer_poll, repeat, carry_out}

abbrev pub the_action : code.MessageAction → MessageAction
the_action (Poll a) = answer_poll a
the_action (Repeat q) = repeat q
the_action (CarryOut t) = carry_out t.now

abbrev pub action_of : Result code.MessageAction MessageFault → Result MessageAction MessageFault
action_of (Ok a) = Ok (the_action a)
action_of (Err f) = Err f
