-- Why records of an events file are refused.
use Rattle.std.specs.Prelude.{ℕ, List, codes}

-- the causes, in the order in which a record is judged
pub data RecordRefusal : Type 0 where
  -- the record is of no kind, or has not the number of fields of its kind
  Shape : RecordRefusal
  -- a field is not UTF-8
  Text : RecordRefusal
  -- there is no such time, or there are no such bounds
  Time : RecordRefusal
  -- the time is outside the bounds
  Outside : RecordRefusal
  -- there is no such name
  Name : RecordRefusal
  -- there are no such properties
  Property : RecordRefusal
  -- the model has no deletions
  Deletion : RecordRefusal
  -- a value has another type than the one that is kept for its key
  KeyType : RecordRefusal
  -- the node has another type
  Retype : RecordRefusal
  -- a limit would be passed
  Limit : RecordRefusal

-- the word for a cause
abbrev pub record_refusal_name : RecordRefusal → List ℕ
record_refusal_name Shape = codes "shape"
record_refusal_name Text = codes "text"
record_refusal_name Time = codes "time"
record_refusal_name Outside = codes "outside"
record_refusal_name Name = codes "name"
record_refusal_name Property = codes "property"
record_refusal_name Deletion = codes "deletion"
record_refusal_name KeyType = codes "type"
record_refusal_name Retype = codes "retype"
record_refusal_name Limit = codes "limit"
