-- A disk denotes one thing at most.
use Rattle.std.proofs.Common.{◌≡◌, ℕ, List, [], ◌∷◌, length, Option, Some, None, refl, sym, ◌∙◌, subst, inl, inr}
use Rattle.pt_sector.specs.Sectors.{Sectors, sector}
use Rattle.pt_mbr.specs.declared.record.Record.{Record}
use Rattle.pt_mbr.specs.declared.ebr.Ebr.{Ebr}
use Rattle.pt_mbr.proofs.Terms.{records_are_one, chain_is_one}
use Rattle.pt_bsd.proofs.Terms.{label_one}
use Rattle.pt_gpt.proofs.Terms.{copy_is_one_lem}
use Rattle.pt_gpt.specs.declared.table.Table.{Table}
use Rattle.pt_gpt.specs.declared.table.Side.TheVariants.{Primary, Backup}
use Rattle.pt_mbr.specs.Records.{extended_of, extent_of}
use Rattle.pt_recover.specs.Denotes.{IsMbr, HasChain, TableIs, LabelsAre, BodyIs, Denotes}
use Rattle.pt_members.specs.Members.{places_of, place_of}
use Rattle.pt_members.specs.declared.layout.Layout.{Layout}
use Rattle.pt_members.specs.declared.layout.Labelled.{Labelled}
use Rattle.pt_members.specs.declared.layout.Slice.{Slice}
use Rattle.pt_members.specs.declared.layout.Body.{Body}
use Rattle.pt_members.specs.declared.layout.Body.TheVariants.{Mbr, Gpt}

pub mbr_one : (d : Sectors) (m n : List (Option Record)) → IsMbr d m → IsMbr d n → m ≡ n
mbr_one d m n p q = records_are_one m n (sector d 0) p.1 q.1

chains_one : (d : Sectors) (rs : List Record) (list other : List Ebr) → HasChain d rs list → HasChain d rs other → list ≡ other
chains_one d [] list other p q = p ∙ sym q
chains_one d (r ∷ []) list other p q = chain_is_one d (extent_of r) list other p q
chains_one d (r ∷ s ∷ rs) list other p q = absurd p

pub table_one : (b : ℕ) (d : Sectors) (t u : Table) → TableIs b d t → TableIs b d u → t ≡ u
table_one b d t u (inl p) (inl q) = copy_is_one_lem b d Primary t u p q
table_one b d t u (inl p) (inr q) = absurd (q.0 (t, p))
table_one b d t u (inr p) (inl q) = absurd (p.0 (u, q))
table_one b d t u (inr p) (inr q) = copy_is_one_lem b d Backup t u p.1 q.1

pub labels_one : (d : Sectors) (ps : List Slice) (ls ms : List Labelled) → LabelsAre d ps ls → LabelsAre d ps ms → ls ≡ ms
labels_one d [] ls ms p q = p ∙ sym q
labels_one d (x ∷ ps) ls ms (inl p) (inl q) =
    let one = label_one p.0 q.0 x.first x.len x.first x.len (sector d (place_of x)) p.3 q.3 in
    let rest = labels_one d ps p.1 q.1 p.4 q.4 in
    p.2 ∙ (λ i. record { number = x.number; label = one i } ∷ rest i) ∙ sym q.2
labels_one d (x ∷ ps) ls ms (inl p) (inr q) = absurd (q.0 (p.0, p.3))
labels_one d (x ∷ ps) ls ms (inr p) (inl q) = absurd (p.0 (q.0, q.3))
labels_one d (x ∷ ps) ls ms (inr p) (inr q) = labels_one d ps ls ms p.1 q.1

pub body_one : (b : ℕ) (d : Sectors) (x y : Body) → BodyIs b d x → BodyIs b d y → x ≡ y
body_one b d (Mbr records chain) (Mbr others other) p q =
    let same = mbr_one d records others p.0 q.0 in
    let chains =
    chains_one d (extended_of others) chain other (subst (λ (m : List (Option Record)). HasChain d (extended_of m) chain) same p.1) q.1 in
    λ i. Mbr (same i) (chains i)
body_one b d (Mbr records chain) (Gpt t) p q = absurd (q.0 p.0.0)
body_one b d (Gpt t) (Mbr records chain) p q = absurd (p.0 q.0.0)
body_one b d (Gpt t) (Gpt u) p q =
    let tables = table_one b d t u p.2 q.2 in
    λ i. Gpt (tables i)

pub denoted_one : (b : ℕ) (d : Sectors) (o p : Option Layout) → Denotes b d o → Denotes b d p → o ≡ p
denoted_one b d None None x y = refl
denoted_one b d None (Some p) x y = absurd (x p.body y.1)
denoted_one b d (Some o) None x y = absurd (y o.body x.1)
denoted_one b d (Some o) (Some p) x y =
    let count = x.0 ∙ sym y.0 in
    let body = body_one b d o.body p.body x.1 y.1 in
    let labels =
    labels_one d (places_of b (length d) p.body) o.labels p.labels
    (subst (λ (z : Body). LabelsAre d (places_of b (length d) z) o.labels) body x.2) y.2 in
    λ i. Some (record { sectors = count i; body = body i; labels = labels i })
