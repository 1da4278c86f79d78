-- Each sector of an MBR layout that words make of a disk's has bytes that would do for it.
use Rattle.std.proofs.Common.{◌≡◌, ◌∙◌, inl, inr, ℕ, List, [], ◌∷◌, length, Option, Some, None, refl, sym, ap, subst}
use Rattle.std.specs.Prelude.{Contains}
use Rattle.pt_sector.specs.Sectors.{Sectors, IsSectorSize, Span, sector}
use Rattle.pt_sector.specs.declared.address.Lba.{Lba}
use Rattle.pt_mbr.specs.Chain.{Walk, StandsAt, lba, EbrBytes}
use Rattle.pt_mbr.specs.Changes.{FitsLink, IsPlainLogical}
use Rattle.pt_mbr.specs.declared.ebr.Ebr.{Ebr}
use Rattle.pt_mbr.specs.declared.record.Record.{Record}
use Rattle.pt_recover.specs.Denotes.{Denotes, BodyIs, HasChain}
use Rattle.pt_mbr.specs.Records.{extended_of, extent_of}
use Rattle.pt_members.specs.declared.layout.Body.TheVariants.{Mbr}
use Rattle.pt_members.specs.declared.layout.Layout.{Layout}
use Rattle.pt_members.proofs.Grouped.{contains_head, contains_tail}
use Rattle.pt_layout.specs.Sound.{Sound}
use Rattle.pt_cases.specs.Keeps.{Keeps}
use Rattle.pt_cases.specs.Writes.{AllLeadOn, IsLoneChain, start_of, Shaped}
use Rattle.pt_cases.proofs.Links.{shaped_plain_lem, shaped_logical_lem, chain_leads_lem, links_fit_lem, chain_is_linked_lem}
use Rattle.pt_cases.specs.Cases.{HadMbr}
use Rattle.pt_cases.specs.Unplanned.{HoldsRecords, HoldsEbr, LeadsOn, HasUnmade, HasUnmadeEbr, HasUnmadeIn}

same_place : (x y : Lba) → x.0 ≡ y.0 → x ≡ y
same_place x y same = λ i. record { 0 = same i }

-- where one of a walk stands, the sector is an extended boot record
walk_holds : (d : Sectors) (x : Span) (from : Option Lba) (list : List Ebr) (e : Ebr) → Walk d x from list None → StandsAt e.at.0 list
    → HoldsEbr d e
walk_holds d x None [] e walk stands = absurd stands
walk_holds d x (Some f) [] e walk stands = absurd stands
walk_holds d x None (w ∷ ws) e walk stands = absurd walk
walk_holds d x (Some f) (w ∷ ws) e walk (inl here) =
    let there : f.0 ≡ e.at.0 = sym (ap (λ (l : Lba). l.0) walk.0.bytes.place) ∙ sym here in
    let bytes : EbrBytes x.first e.at w (sector d e.at.0) =
    subst (λ (l : Lba). EbrBytes x.first l w (sector d l.0)) (same_place f e.at there) walk.0.bytes in
    (x.first, w, bytes)
walk_holds d x (Some f) (w ∷ ws) e walk (inr later) = walk_holds d x w.next ws e walk.2 later

chain_holds : (d : Sectors) (rs : List Record) (list : List Ebr) (e : Ebr) → HasChain d rs list → StandsAt e.at.0 list → HoldsEbr d e
chain_holds d [] list e has stands = absurd (subst (λ (c : List Ebr). StandsAt e.at.0 c) has stands)
chain_holds d (r ∷ []) list e has stands = walk_holds d (extent_of r) (Some (lba (extent_of r).first)) list e has.whole stands
chain_holds d (r ∷ s ∷ rs) list e has stands = absurd has

-- the disk has the old records and the old chain
old_there : (b : ℕ) (d : Sectors) (o : Option Layout) → Denotes b d o → (was : HadMbr o) → BodyIs b d (Mbr was.records was.chain)
old_there b d o from was = subst (BodyIs b d) was.body (subst (Denotes b d) was.is_old from).1

old_records : (b : ℕ) (d : Sectors) (o : Option Layout) → Denotes b d o → (was : HadMbr o) → HoldsRecords d was.records
old_records b d o from was =
    let is = old_there b d o from was in
    record { bytes = record { formed = is.0.0.1.formed; records = is.0.1 }; plain = is.0.0.1.plain }

-- who leads to where the first of these stands leads on to them
leads_on : (first : ℕ) (next : Option Lba) (es : List Ebr) → next ≡ start_of es → ((e : Ebr) → Contains es e → FitsLink first e)
    → LeadsOn first next es
leads_on first next [] same fits = same
leads_on first next (e ∷ es) same fits = (same, fits e (contains_head e es))

-- extended boot records that lead on, with links and logical partitions that fit, can be made over old ones that hold
ebrs_made : (b : ℕ) (d : Sectors) (old : List Ebr) (first : ℕ) (es : List Ebr) → ((e : Ebr) → StandsAt e.at.0 old → HoldsEbr d e)
    → AllLeadOn es → ((e : Ebr) → Contains es e → FitsLink first e) → ((e : Ebr) → Contains es e → IsPlainLogical e.logical)
    → ¬ HasUnmadeEbr b d old first es
ebrs_made b d old first [] holds leads links plain unmade = unmade
ebrs_made b d old first (e ∷ es) holds leads links plain (inl here) =
    let next = leads_on first e.next es leads.0 (λ f has. links f (contains_tail e es f has)) in
    here.unfit (record { logical = plain e (contains_head e es); next = next }, holds e)
ebrs_made b d old first (e ∷ es) holds leads links plain (inr later) =
    ebrs_made b d old first es holds leads.1 (λ f has. links f (contains_tail e es f has))
    (λ f has. plain f (contains_tail e es f has)) later

-- so can the chain of a shaped and sound MBR
chain_made : (b : ℕ) (d : Sectors) (p : Layout) (records : List (Option Record)) (chain old : List Ebr) (es : List Record)
    → extended_of records ≡ es
    → ((e : Ebr) → StandsAt e.at.0 old → HoldsEbr d e) → Shaped b p → Sound b p → p.body ≡ Mbr records chain
    → ¬ HasUnmadeIn b d old es chain
chain_made b d p records chain old [] lone holds shaped sound is unmade = unmade
chain_made b d p records chain old (r ∷ []) lone holds shaped sound is unmade =
    ebrs_made b d old (extent_of r).first chain holds (chain_leads_lem b p records chain shaped is)
    (λ e has. links_fit_lem b p records chain r e shaped sound is lone has)
    (λ e has. shaped_logical_lem b p records chain e shaped is has) unmade
chain_made b d p records chain old (r ∷ s ∷ es) lone holds shaped sound is unmade =
    absurd (subst (λ (l : List Record). IsLoneChain p.sectors l chain) lone (chain_is_linked_lem b p records chain shaped sound is))

-- sector 0 and each extended boot record has its target
pub edit_made : (b : ℕ) (d : Sectors) (o : Option Layout) (p : Layout) (records : List (Option Record)) (chain : List Ebr)
    → IsSectorSize b → Denotes b d o
    → Keeps b (length d) o p → Sound b p → p.body ≡ Mbr records chain → (was : HadMbr o)
    → ¬ HasUnmade b d was.records was.chain records chain
edit_made b d o p records chain size from keeps sound is was (inl head) =
    head.unfit (shaped_plain_lem b p records chain keeps.shaped is, old_records b d o from was)
edit_made b d o p records chain size from keeps sound is was (inr unmade) =
    let there = old_there b d o from was in
    let holds : (e : Ebr) → StandsAt e.at.0 was.chain → HoldsEbr d e =
    λ e stands. chain_holds d (extended_of was.records) was.chain e there.1 stands in
    chain_made b d p records chain was.chain (extended_of records) refl holds keeps.shaped sound is unmade
