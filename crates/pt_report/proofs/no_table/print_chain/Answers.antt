use Rattle.std.proofs.Common.{◌≡◌, ◌∙◌, ◌∷◌, [], ap, sym, subst, List, ℕ, inl, inr}
use Rattle.std.specs.Prelude.{◌⊎◌, codes, decimal, OnOk}
use Rattle.std.specs.Io.KnownBytes.{Appends}
use Rattle.pt_sector.specs.declared.address.Lba.{Lba}
use Rattle.pt_mbr.specs.Records.{error_number}
use Rattle.pt_mbr.specs.declared.chain.ChainError.{ChainError}
use Rattle.pt_mbr.specs.declared.chain.ChainError.TheVariants.{NoSignature, BadRecord, NotUpward, OutsideExtended}
use Rattle.pt_report.specs.Shown.{line}
use Rattle.pt_report.specs.Replies.{chain_at, chain_text}
use Rattle.pt_report.proofs.no_table.print_chain.Goals as goal

placed : (e : ChainError) (at : Lba)
    → (e ≡ NoSignature at) ⊎ ((e ≡ BadRecord at) ⊎ ((e ≡ NotUpward at) ⊎ (e ≡ OutsideExtended at))) → chain_at e at ≡ chain_text e
placed e at (inl is) = ap (λ (x : ChainError). chain_at x at) is ∙ ap chain_text (sym is)
placed e at (inr (inl is)) = ap (λ (x : ChainError). chain_at x at) is ∙ ap chain_text (sym is)
placed e at (inr (inr (inl is))) = ap (λ (x : ChainError). chain_at x at) is ∙ ap chain_text (sym is)
placed e at (inr (inr (inr is))) = ap (λ (x : ChainError). chain_at x at) is ∙ ap chain_text (sym is)

pub returns-in-TooLong : goal.returns-in-TooLong
returns-in-TooLong g c =
    subst (λ (t : List ℕ). OnOk c.writeln.result (Appends (g.E.Write.contents c.args.err.now) (g.E.Write.contents c.writeln.new.self) t))
    (ap (λ (k : ℕ). line (codes "no table: chain" ∷ decimal k ∷ [])) (c.number.ensures ∙ ap error_number c.in-TooLong.is)
    ∙ ap chain_text (sym c.in-TooLong.is))
    c.writeln.ensures.bytes

pub returns-in-NoSignature : goal.returns-in-NoSignature
returns-in-NoSignature g c =
    let at = c.in-NoSignature.at in
    subst (λ (t : List ℕ). OnOk c.print_pair.result (Appends (g.E.Write.contents c.args.err.now)
    (g.E.Write.contents c.print_pair.new.err) t))
    (ap (λ (k : ℕ). line (codes "no table: chain" ∷ decimal k ∷ decimal at.0 ∷ []))
    (c.number-in-NoSignature.ensures ∙ ap error_number c.in-NoSignature.error-is)
    ∙ placed c.args.error at c.in-NoSignature.is)
    c.print_pair.ensures
