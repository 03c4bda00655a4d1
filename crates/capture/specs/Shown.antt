-- What the code's replies stand for.
use Rattle.std.specs.Prelude.{Option}
use Rattle.std.specs.Option.{option_map}
use Rattle.capture.specs.declared.content.Reply as code
use Rattle.capture.specs.declared.content.Reply.TheVariants.{Enquiry, Call, AcknowledgedCall, AcknowledgedText}
use Rattle.capture.specs.Replies.{Reply, enquiry, call, acknowledged_call, acknowledged_text}

abbrev pub the_reply : code.Reply → Reply
the_reply Enquiry = enquiry
the_reply (Call c) = call c
the_reply (AcknowledgedCall c) = acknowledged_call c
the_reply (AcknowledgedText t) = acknowledged_text t.now

abbrev pub reply_of : Option code.Reply → Option Reply
reply_of = option_map the_reply
