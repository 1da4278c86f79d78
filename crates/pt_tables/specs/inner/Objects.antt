-- What stands in an object or an array that is being made.
use Rattle.std.specs.Prelude.{List, map}
use Rattle.serde_json.specs.Data.{Data, Members}
use Rattle.serde_json.specs.View.{view, members_view}
use Rattle.pt_tables.specs.declared.object.Array.{Array}
use Rattle.pt_tables.specs.declared.object.Object.{Object}

abbrev pub members_in : Object → Members
members_in o = members_view o.members.entries

abbrev pub values_in : Array → List Data
values_in a = map view a.items.items
