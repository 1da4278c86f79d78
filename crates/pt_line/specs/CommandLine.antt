-- The command `ptab` as its parser has it: its subcommands and their arguments.
use Rattle.std.specs.Prelude.{List, [], ◌∷◌, ◌++◌, Some, true, false, codes}
use Rattle.std.specs.Borrow.{Bor}
use Rattle.clap.specs.Lexer.{usize_max}
use Rattle.clap.specs.Words.{App, Rule, Shape, Text, new_rule}
use Rattle.clap.specs.Simple.{new_shape}
use Rattle.clap.specs.declared.builder.action.ArgAction.TheVariants.{Set, Append, SetTrue}
use Rattle.clap.specs.declared.builder.value_parser.ValueParser.TheVariants.{Names}

-- an argument that is required, and has one value
abbrev pub needed : Text → Rule
needed id = record (new_rule id) { required = true; action = Some Set }

-- `--sector-size BYTES`, which has one of these texts as its value
abbrev pub sector_size : Bor (List (Bor Text)) → Rule
sector_size sizes = record (new_rule (codes "sector-size")) {
  long = Some (codes "sector-size");
  value_names = 1;
  parser = Some (Names sizes);
  action = Some Set;
}

-- `--fresh HEX`
abbrev pub fresh : Rule
fresh = record (new_rule (codes "fresh")) {
  long = Some (codes "fresh");
  value_names = 1;
  action = Some Set;
}

-- `--after PLANFILE`
abbrev pub after : Rule
after = record (new_rule (codes "after")) {
  long = Some (codes "after");
  value_names = 1;
  action = Some Set;
}

-- `--copy COPY`
abbrev pub copy : Rule
copy = record (new_rule (codes "copy")) {
  long = Some (codes "copy");
  value_names = 1;
  action = Some Set;
}

-- `--data FILE`
abbrev pub data_file : Rule
data_file = record (new_rule (codes "data")) {
  long = Some (codes "data");
  value_names = 1;
  action = Some Set;
}

-- `--no-lock`, a flag
abbrev pub no_lock : Rule
no_lock = record (new_rule (codes "no-lock")) { long = Some (codes "no-lock"); action = Some SetTrue }

-- `--plan`, a flag
abbrev pub plan_only : Rule
plan_only = record (new_rule (codes "plan")) { long = Some (codes "plan"); action = Some SetTrue }

-- `--keep-primary` and `--by-table`, flags
abbrev pub keep_primary : Rule
keep_primary = record (new_rule (codes "keep-primary")) { long = Some (codes "keep-primary"); action = Some SetTrue }

abbrev pub by_table : Rule
by_table = record (new_rule (codes "by-table")) { long = Some (codes "by-table"); action = Some SetTrue }

-- `--json`, a flag
abbrev pub json : Rule
json = record (new_rule (codes "json")) { long = Some (codes "json"); action = Some SetTrue }

-- `--human`, a flag
abbrev pub human : Rule
human = record (new_rule (codes "human")) { long = Some (codes "human"); action = Some SetTrue }

-- `--device`, `--in-use` and `--other-device`, flags
abbrev pub device : Rule
device = record (new_rule (codes "device")) { long = Some (codes "device"); action = Some SetTrue }

abbrev pub in_use : Rule
in_use = record (new_rule (codes "in-use")) { long = Some (codes "in-use"); action = Some SetTrue }

abbrev pub other_device : Rule
other_device = record (new_rule (codes "other-device")) { long = Some (codes "other-device"); action = Some SetTrue }

-- one word or more
abbrev pub edit_words : Rule
edit_words = record (new_rule (codes "WORD")) {
  required = true;
  range = Some (record { start_inclusive = 1; end_inclusive = usize_max });
  action = Some Append;
}

-- what is said of the image
abbrev pub on_disk : Bor (List (Bor Text)) → List Rule
on_disk sizes = device ∷ sector_size sizes ∷ []

-- the arguments of a command on an image alone; on one of which something may be printed as JSON; on one that may also be shown after a
-- plan, by one copy, or for people; on a place in it; on words; and on a plan's file
abbrev pub image_rules : Bor (List (Bor Text)) → List Rule
image_rules sizes = needed (codes "IMAGE") ∷ on_disk sizes

abbrev pub free_rules : Bor (List (Bor Text)) → List Rule
free_rules sizes = needed (codes "IMAGE") ∷ json ∷ on_disk sizes

abbrev pub show_rules : Bor (List (Bor Text)) → List Rule
show_rules sizes = needed (codes "IMAGE") ∷ after ∷ copy ∷ json ∷ human ∷ on_disk sizes

abbrev pub place_rules : Bor (List (Bor Text)) → List Rule
place_rules sizes = needed (codes "IMAGE") ∷ needed (codes "PATH") ∷ needed (codes "K") ∷ on_disk sizes

abbrev pub word_rules : Bor (List (Bor Text)) → List Rule
word_rules sizes = needed (codes "IMAGE") ∷ fresh ∷ keep_primary ∷ (on_disk sizes ++ edit_words ∷ [])

abbrev pub plan_rules : Bor (List (Bor Text)) → List Rule
plan_rules sizes = needed (codes "IMAGE") ∷ needed (codes "PLANFILE") ∷ on_disk sizes

-- on an image that is mended
abbrev pub mend_rules : Bor (List (Bor Text)) → List Rule
mend_rules sizes = needed (codes "IMAGE") ∷ keep_primary ∷ on_disk sizes

-- on another image besides, with data of it or not, with its plan alone or not
abbrev pub other_rules : Bor (List (Bor Text)) → List Rule
other_rules sizes =
    needed (codes "IMAGE") ∷ needed (codes "OTHER") ∷ data_file ∷ plan_only ∷ by_table ∷ other_device ∷ on_disk sizes

-- on a table's text besides, with its plan alone or not
abbrev pub table_rules : Bor (List (Bor Text)) → List Rule
table_rules sizes = needed (codes "IMAGE") ∷ needed (codes "TABLE") ∷ plan_only ∷ fresh ∷ by_table ∷ on_disk sizes

-- the same of a command that writes the image
abbrev pub writing : List Rule → List Rule
writing rules = rules ++ in_use ∷ no_lock ∷ []

abbrev pub subcommand : Text → List Rule → Shape
subcommand name rules = record (new_shape name) { rules = rules }

-- the command but for its subcommands, of which one is required
abbrev pub top : App
top = record { top = record (new_shape (codes "ptab")) { has_version = true; subcommand_required = true }; subs = [] }

-- the command, where these are the texts of the sector's sizes
abbrev pub ptab : Bor (List (Bor Text)) → App
ptab sizes = record {
  top = record top.top { is_leaf = false };
  subs = subcommand (codes "show") (show_rules sizes)
      ∷ subcommand (codes "verify") (image_rules sizes)
      ∷ subcommand (codes "locate") (place_rules sizes)
      ∷ subcommand (codes "free") (free_rules sizes)
      ∷ subcommand (codes "types") []
      ∷ subcommand (codes "edit") (writing (word_rules sizes))
      ∷ subcommand (codes "plan") (word_rules sizes)
      ∷ subcommand (codes "check") (plan_rules sizes)
      ∷ subcommand (codes "apply") (writing (plan_rules sizes))
      ∷ subcommand (codes "repair") (writing (mend_rules sizes))
      ∷ subcommand (codes "adopt") (writing (other_rules sizes))
      ∷ subcommand (codes "set") (writing (table_rules sizes))
      ∷ [];
}
