-- Values whose numbers are all alike.
use Rattle.serde_json.specs.Data.{Data, unsigned, null, boolean, number, string, array, object, Items, no_items, item, Members, no_members, member}

-- a value with 1 in the place of each number
abbrev mutual
  pub with_ones : Data → Data
  with_ones null = null
  with_ones (boolean b) = boolean b
  with_ones (number n) = number (unsigned 1)
  with_ones (string s) = string s
  with_ones (array ds) = array (items_with_ones ds)
  with_ones (object ms) = object (members_with_ones ms)

  pub items_with_ones : Items → Items
  items_with_ones no_items = no_items
  items_with_ones (item d ds) = item (with_ones d) (items_with_ones ds)

  pub members_with_ones : Members → Members
  members_with_ones no_members = no_members
  members_with_ones (member k d ms) = member k (with_ones d) (members_with_ones ms)
