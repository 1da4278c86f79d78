-- The command `ptab` as its parser has it: its subcommands and their arguments.
use Rattle.std.specs.Prelude.{List, [], ◌∷◌, false, codes}
use Rattle.std.specs.Borrow.{Bor}
use Rattle.clap.specs.Words.{App, Rule, Text}
use Rattle.pt_line.specs.declared.pages.Subcommand.{Subcommand}
use Rattle.pt_line.specs.declared.pages.Subcommand.TheVariants.{Show, Verify, Locate, Free, Types, Edit}
use Rattle.pt_line.specs.declared.pages.Subcommand.TheVariants.{Plan, Check, Apply, Repair, Adopt, Set}
use Rattle.pt_line.specs.CommandLine.{image_rules, free_rules, show_rules, place_rules, word_rules, plan_rules, mend_rules, other_rules}
use Rattle.pt_line.specs.CommandLine.{table_rules, writing, subcommand, top}

abbrev pub name_of : Subcommand → Text
name_of Show = codes "show"
name_of Verify = codes "verify"
name_of Locate = codes "locate"
name_of Free = codes "free"
name_of Types = codes "types"
name_of Edit = codes "edit"
name_of Plan = codes "plan"
name_of Check = codes "check"
name_of Apply = codes "apply"
name_of Repair = codes "repair"
name_of Adopt = codes "adopt"
name_of Set = codes "set"

abbrev pub rules_of : Bor (List (Bor Text)) → Subcommand → List Rule
rules_of sizes Show = show_rules sizes
rules_of sizes Verify = image_rules sizes
rules_of sizes Locate = place_rules sizes
rules_of sizes Free = free_rules sizes
rules_of sizes Types = []
rules_of sizes Edit = writing (word_rules sizes)
rules_of sizes Plan = word_rules sizes
rules_of sizes Check = plan_rules sizes
rules_of sizes Apply = writing (plan_rules sizes)
rules_of sizes Repair = writing (mend_rules sizes)
rules_of sizes Adopt = writing (other_rules sizes)
rules_of sizes Set = writing (table_rules sizes)

-- a subcommand as a command of its own
abbrev pub page : Text → List Rule → App
page name rules = record { top = subcommand name rules; subs = [] }

abbrev pub page_of : Bor (List (Bor Text)) → Subcommand → App
page_of sizes s = page (name_of s) (rules_of sizes s)

-- the command with one of its subcommands
abbrev pub alone : Bor (List (Bor Text)) → Subcommand → App
alone sizes s = record { top = record top.top { is_leaf = false }; subs = (page_of sizes s).top ∷ [] }
