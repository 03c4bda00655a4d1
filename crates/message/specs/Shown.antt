-- What the code's forms and messages stand for.
use Rattle.std.specs.Prelude.{Option}
use Rattle.std.specs.Option.{option_map}
use Rattle.message.specs.declared.Form as code_form
use Rattle.message.specs.declared.Form.TheVariants.{Poll, PollAcknowledge, Repeat, Text}
use Rattle.message.specs.declared.Message as code_message
use Rattle.message.specs.Forms.{Form, poll, poll_acknowledge, repeat_request, text, Message}

abbrev pub the_form : code_form.Form → Form
the_form Poll = poll
the_form PollAcknowledge = poll_acknowledge
the_form Repeat = repeat_request
the_form (Text t) = text t.now

abbrev pub form_of : Option code_form.Form → Option Form
form_of = option_map the_form

-- what a message in the code stands for
abbrev pub the_message : code_message.Message → Message
the_message m = record { rid = m.rid; sid = m.sid; did = m.did; form = the_form m.form }

abbrev pub message_of : Option code_message.Message → Option Message
message_of = option_map the_message
