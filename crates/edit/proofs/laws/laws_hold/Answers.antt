use Rattle.edit.proofs.Keeps.{edited_on, addressed_on, typed_on, stored_on}
use Rattle.edit.proofs.Captions.{captions_edited, captions_stored}
use Rattle.edit.proofs.laws.laws_hold.Goals as goal

pub returns : goal.returns
returns c = record { stay = (edited_on, addressed_on, typed_on, stored_on); captions = (captions_edited, captions_stored) }
