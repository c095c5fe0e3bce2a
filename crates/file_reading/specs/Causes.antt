-- The causes of refusals of records, in the words of what an events file says.
use Rattle.graph_model.specs.Refusal as why
use Rattle.graph_model.specs.Refusal.{RecordRefusal}
use Rattle.file_reading.specs.declared.causes.Cause.{Cause}
use Rattle.file_reading.specs.declared.causes.Cause.TheVariants as cause

-- the refusal of a record for a cause
abbrev pub refusal_of : Cause → RecordRefusal
refusal_of cause.Shape = why.Shape
refusal_of cause.Text = why.Text
refusal_of cause.Time = why.Time
refusal_of cause.Outside = why.Outside
refusal_of cause.Name = why.Name
refusal_of cause.Property = why.Property
refusal_of cause.Deletion = why.Deletion
refusal_of cause.KeyType = why.KeyType
refusal_of cause.Retype = why.Retype
refusal_of cause.Limit = why.Limit
