-- How many bytes, properties, events, names and numbers there may be at the most.
use Rattle.std.specs.Prelude.{ℕ}

-- the bytes of a name, and those of the text of a value
abbrev pub most_name_bytes : ℕ
most_name_bytes = 256

abbrev pub most_text_bytes : ℕ
most_text_bytes = 4096

-- the properties of one event
abbrev pub most_properties : ℕ
most_properties = 256

-- the events of a graph
abbrev pub most_events : ℕ
most_events = 4194304

-- its nodes
abbrev pub most_nodes : ℕ
most_nodes = 1048576

-- its layers
abbrev pub most_layers : ℕ
most_layers = 64

-- the keys of its nodes, and those of its edges
abbrev pub most_keys : ℕ
most_keys = 256

-- the names of types
abbrev pub most_types : ℕ
most_types = 4096

-- the views of a query
abbrev pub most_views : ℕ
most_views = 64

-- the windows in a row of a query
abbrev pub most_windows : ℕ
most_windows = 65536

-- the bytes of an events file, and those of a script
abbrev pub most_events_bytes : ℕ
most_events_bytes = 268435456

abbrev pub most_script_bytes : ℕ
most_script_bytes = 1048576
