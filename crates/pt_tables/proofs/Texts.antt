-- What is known of a text that was written.
use Rattle.std.proofs.Common.{◌≡◌, ◌≤◌, Some, Ok, Err, IfOk, subst, sym, ap, ◌∙◌}
use Rattle.std.specs.Prelude.{Result, String, string_bytes}
use Rattle.std.specs.declared.alloc.AllocError.{AllocError}
use Rattle.std.specs.declared.alloc.Global.{Global}
use Rattle.json.specs.Lex.{tokens}
use Rattle.json.specs.Layout.{pretty}
use Rattle.serde_json.specs.Data.{Data, depth}
use Rattle.serde_json.specs.Read.{max_depth, read}
use Rattle.serde_json.specs.Written.{IsInOrder}
use Rattle.pt_tables.specs.Text.{IsText}

pub is_text : (r : Result (String Global) AllocError) (d e : Data) → d ≡ e → depth e ≤ max_depth
    → IfOk r (λ s. depth d ≤ max_depth → read (string_bytes s) ≡ Some d) → IfOk r (λ s. IsInOrder (string_bytes s) d)
    → IfOk r (λ s. string_bytes s ≡ pretty (tokens (string_bytes s))) → IfOk r (λ s. IsText (string_bytes s) e)
is_text (Err x) d e same small reads order layout = tt
is_text (Ok s) d e same small reads order layout = record {
  reads = reads (subst (λ (x : Data). depth x ≤ max_depth) (sym same) small) ∙ ap Some same;
  order = subst (λ (x : Data). IsInOrder (string_bytes s) x) same order;
  layout = layout;
}
