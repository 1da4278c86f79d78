-- Extended boot records that change, or stand in a new sector.
use Rattle.std.proofs.Common.{◌≡◌, ◌≢◌, ℕ, ◌+◌, ◌++◌, ◌<◌, ◌≤◌, List, [], ◌∷◌, length, take, drop, replicate, get_or, Option, Some, None}
use Rattle.pt_sector.specs.Sectors.{number_at}
use Rattle.std.proofs.Common.{refl, sym, ap, ◌∙◌, subst, arith, inl, inr}
use Rattle.std.specs.Prelude.{◌⊎◌, slice_index, slice_range}
use Rattle.std.proofs.lemmas.Bool.{cases_lt}
use Rattle.std.proofs.lemmas.List.{ext_get_or, get_or-drop, get_or-take, get_or-replicate, get_or_past, length-drop, length-replicate}
use Rattle.std.proofs.lemmas.List.{length-take-le}
use Rattle.pt_sector.specs.declared.address.Lba.{Lba}
use Rattle.pt_mbr.specs.Records.{put_at, HasSignature, IsUsed, RecordIs, ReadsAsUsed, IsExtendedKind, record_bytes}
use Rattle.pt_mbr.specs.Records.{IsBootIndicator, HasBootIndicators}
use Rattle.pt_mbr.specs.inner.Records.{IsWritten, boot_of}
use Rattle.pt_mbr.specs.Chain.{EbrBytes, NextIs, HasZeros, HasBadLogical, HasBadLink}
use Rattle.pt_mbr.specs.Changes.{IsChanged, IsPlainRecord, IsPlainLogical, LinksTo}
use Rattle.pt_mbr.specs.inner.Changes.{IsStep}
use Rattle.pt_mbr.specs.declared.record.Record.{Record}
use Rattle.pt_mbr.specs.declared.ebr.Ebr.{Ebr}
use Rattle.pt_mbr.proofs.Kept.{record_kept}
use Rattle.pt_mbr.proofs.Encoding.{put_here, put_other, first_at, index_at}
use Rattle.pt_mbr.proofs.Changing.{Stays, Stands, Turned, part_same, step_other, step_stays, stays_so, stands_on, written_stands, turned}
use Rattle.pt_mbr.proofs.Changing.{changed, plain_usable, plain_boot, reads, boots}

plain_logical : (o : Option Record) → IsPlainLogical o → IsPlainRecord o
plain_logical None plain = tt
plain_logical (Some r) plain = plain.0

-- what a link is read as
extends : (kind : ℕ) → IsExtendedKind kind → kind ≢ 0
extends kind (inl five) none = omega (arith, five, none)
extends kind (inr fifteen) none = omega (arith, fifteen, none)

link_usable : (first : ℕ) (next : Option Lba) (link : Option Record) → LinksTo first next link → ReadsAsUsed link
link_usable first next None leads = tt
link_usable first None (Some r) leads = absurd leads
link_usable first (Some y) (Some r) leads = (extends r.kind leads.extended, leads.sized)

link_boot : (first : ℕ) (next : Option Lba) (link : Option Record) → LinksTo first next link → IsBootIndicator (boot_of link)
link_boot first next None leads = inl refl
link_boot first None (Some r) leads = absurd leads
link_boot first (Some y) (Some r) leads = leads.boot

next_of : (first : ℕ) (next : Option Lba) (link : Option Record) (c : List ℕ) → LinksTo first next link → RecordIs link 462 c
    → NextIs first next c
next_of first None None c leads is = is
next_of first None (Some r) c leads is = absurd leads
next_of first (Some y) None c leads is = absurd leads
next_of first (Some y) (Some r) c leads is = (is.0, leads.there ∙ ap (λ (n : ℕ). first + n) (sym is.1.start))

good_link : (first : ℕ) (next : Option Lba) (link : Option Record) (c : List ℕ) → LinksTo first next link → RecordIs link 462 c
    → ¬ HasBadLink c
unfolding HasBadLink
good_link first next None c leads is bad = is bad.0
good_link first None (Some r) c leads is bad = absurd leads
good_link first (Some y) (Some r) c leads is bad = bad.1 (subst (λ (n : ℕ). IsExtendedKind n) (sym is.1.kind) leads.extended)

good_logical : (o : Option Record) (c : List ℕ) → IsPlainLogical o → RecordIs o 446 c → ¬ HasBadLogical c
unfolding HasBadLogical
good_logical None c plain is bad = is bad.0
good_logical (Some r) c plain is (used, inl extended) = plain.1 (subst (λ (n : ℕ). IsExtendedKind n) is.1.kind extended)
good_logical (Some r) c plain is (used, inr protective) = plain.0.plain (sym is.1.kind ∙ protective)

-- a link whose bytes stay
there : ℕ → List ℕ → Record
there at b = record {
  boot = slice_index b at;
  start_chs = slice_range b (at + 1) (at + 4);
  kind = slice_index b (at + 4);
  end_chs = slice_range b (at + 5) (at + 8);
  start = number_at (at + 8) 4 b;
  size = number_at (at + 12) 4 b;
}

there_is : (at : ℕ) (b : List ℕ) → IsUsed at b → RecordIs (Some (there at b)) at b
unfolding there
there_is at b used = (used, record { boot = refl; start_chs = refl; kind = refl; end_chs = refl; start = refl; size = refl })

stays_back : (k : ℕ) (b c : List ℕ) → Stays k b c → Stays k c b
stays_back k b c stays i low high = sym (stays i low high)

next_kept : (first : ℕ) (o : Option Lba) (b c : List ℕ) → 512 ≤ length b → length c ≡ length b → Stays 1 b c → NextIs first o b
    → NextIs first o c
unfolding there
next_kept first None b c long count stays none = λ used.
    none (record_kept (Some (there 462 c)) 462 c b (omega (arith, long, count)) (sym count) (stays_back 1 b c stays)
    (there_is 462 c used)).0
next_kept first (Some y) b c long count stays is =
    let kept = record_kept (Some (there 462 b)) 462 b c (omega (arith, long)) count stays (there_is 462 b is.0) in
    (kept.0, is.1 ∙ ap (λ (n : ℕ). first + n) (sym kept.1.start))

link_kept : (b c : List ℕ) → 512 ≤ length b → length c ≡ length b → Stays 1 b c → ¬ HasBadLink b → ¬ HasBadLink c
unfolding HasBadLink
link_kept b c long count stays good bad =
    good (
      (record_kept (Some (there 462 c)) 462 c b (omega (arith, long, count)) (sym count) (stays_back 1 b c stays) (there_is 462 c bad.0)).0,
      λ extended. bad.1 (subst (λ (n : ℕ). IsExtendedKind n) (sym (stays 466 (omega arith) (omega arith))) extended),
    )

link_next : (Same : Type 0) (first : ℕ) (old new : Option Lba) (link : Option Record) (u c : List ℕ) → (Same → old ≡ new)
    → 512 ≤ length u → length c ≡ length u
    → (¬ Same → LinksTo first new link) → NextIs first old u → ¬ HasBadLink u → Turned Same link 1 u c
    → NextIs first new c × (¬ HasBadLink c)
link_next Same first old new link u c eq long count leads next good (inl stays) = (
  next_kept first new u c long count stays.1 (subst (λ (o : Option Lba). NextIs first o u) (eq stays.0) next),
  link_kept u c long count stays.1 good,
)
link_next Same first old new link u c eq long count leads next good (inr stands) =
    let is = stands.1.read (link_usable first new link (leads stands.0)) in
    (next_of first new link c (leads stands.0) is, good_link first new link c (leads stands.0) is)

-- one that changes
module _ (old new : Ebr) (link : Option Record) (u s c : List ℕ)
    (w0 : IsStep (old.logical ≡ new.logical) new.logical 0 u s) (w1 : IsStep (old.next ≡ new.next) link 1 s c)
    (long : 512 ≤ length u) (l0 : length s ≡ length u) (l1 : length c ≡ length u) where
  all_else : (i : ℕ) → (i < 446) ⊎ (478 ≤ i) → slice_index c i ≡ slice_index u i
  all_else i (inl low) = step_other _ _ 1 s c w1 i (inl (omega (arith, low))) ∙ step_other _ _ 0 u s w0 i (inl (omega (arith, low)))
  all_else i (inr high) = step_other _ _ 1 s c w1 i (inr (omega (arith, high))) ∙ step_other _ _ 0 u s w0 i (inr (omega (arith, high)))

  logical_turned : Turned (old.logical ≡ new.logical) new.logical 0 u c
  logical_turned =
      turned _ _ 0 u u s c (omega arith) (omega (arith, long, l0)) (omega (arith, l1, l0)) (stays_so 0 u) w0
      (step_stays _ _ 1 s c 0 (omega arith) w1)

  link_turned : Turned (old.next ≡ new.next) link 1 u c
  link_turned =
      turned _ _ 1 u s c c (omega arith) (omega (arith, long, l1)) refl (step_stays _ _ 0 u s 1 (omega arith) w0) w1 (stays_so 1 c)

  pub logical_changed : IsChanged (old.logical ≡ new.logical) new.logical 0 u c
  logical_changed = changed _ _ 0 u c (omega arith) long l1 logical_turned

  pub link_changed : IsChanged (old.next ≡ new.next) link 1 u c
  link_changed = changed _ _ 1 u c (omega arith) long l1 link_turned

  pub ebr_anew : (first : ℕ) → (old.next ≢ new.next → LinksTo first new.next link) → IsPlainLogical new.logical
      → EbrBytes first new.at old u → EbrBytes first new.at new c
  unfolding HasSignature HasBootIndicators HasZeros
  ebr_anew first leads plain is =
      let logical =
      reads old.logical new.logical 0 u c (omega arith) long l1 (plain_usable _ (plain_logical _ plain)) is.logical logical_turned in
      let next =
      link_next (old.next ≡ new.next) first old.next new.next link u c (λ same. same) long l1 leads is.next is.link_kind link_turned in
      record {
        signature = (all_else 510 (inr (omega arith)) ∙ is.signature.0, all_else 511 (inr (omega arith)) ∙ is.signature.1);
        boots = (
          boots _ _ 0 u c (λ no. plain_boot _ (plain_logical _ plain)) is.boots.0 logical_turned,
          boots _ _ 1 u c (λ no. link_boot first new.next link (leads no)) is.boots.1 link_turned,
          subst (λ (b : ℕ). IsBootIndicator b) (sym (all_else 478 (inr (omega arith)))) is.boots.2,
          subst (λ (b : ℕ). IsBootIndicator b) (sym (all_else 494 (inr (omega arith)))) is.boots.3,
        );
        zeros = part_same 478 32 u c (omega (arith, long)) l1 (λ i low high. all_else i (inr low)) ∙ is.zeros;
        logical_kind = good_logical new.logical c plain logical;
        link_kind = next.1;
        place = refl;
        logical = logical;
        next = next.0;
      }

-- a new one
zero_of : (n i : ℕ) → slice_index (replicate n 0) i ≡ 0
zero_of n i = elim (cases_lt i n) as (λ w. slice_index (replicate n 0) i ≡ 0) [
  | inl below ↦ get_or-replicate n i 0 0 below
  | inr above ↦ get_or_past (replicate n 0) i 0 (let e = length-replicate {A = ℕ} n 0 in omega (arith, e, above))
]

module _ (n : ℕ) (ebr : Ebr) (link : Option Record) (s0 s1 c : List ℕ)
    (end : s0 ≡ put_at 510 (0x55 ∷ 0xAA ∷ []) (replicate n 0)) (w0 : IsWritten ebr.logical 0 s0 s1) (w1 : IsWritten link 1 s1 c)
    (long : 512 ≤ n) (l0 : length s0 ≡ n) (l1 : length s1 ≡ n) (l2 : length c ≡ n) where
  room : 510 ≤ length {A = ℕ} (replicate n 0)
  room = let e = length-replicate {A = ℕ} n 0 in omega (arith, e, long)

  empty : (i : ℕ) → (i < 510) ⊎ (510 + 2 ≤ i) → slice_index s0 i ≡ 0
  empty i away =
      ap (λ (s : List ℕ). slice_index s i) end ∙ put_other 510 i 2 (0x55 ∷ 0xAA ∷ []) (replicate n 0) room refl away ∙ zero_of n i

  above : (i : ℕ) → 478 ≤ i → slice_index c i ≡ slice_index s0 i
  above i high = w1.other i (inr (omega (arith, high))) ∙ w0.other i (inr (omega (arith, high)))

  pub zeros_else : (i : ℕ) → (i < 446) ⊎ ((478 ≤ i) × (i < 510)) ⊎ (512 ≤ i) → slice_index c i ≡ 0
  zeros_else i (inl low) =
      w1.other i (inl (omega (arith, low))) ∙ w0.other i (inl (omega (arith, low))) ∙ empty i (inl (omega (arith, low)))
  zeros_else i (inr (inl within)) = above i within.0 ∙ empty i (inl within.1)
  zeros_else i (inr (inr high)) = above i (omega (arith, high)) ∙ empty i (inr (omega (arith, high)))

  signature_there : drop 510 s0 ≡ (0x55 ∷ 0xAA ∷ []) ++ drop 512 (replicate n 0)
  signature_there = ap (λ (s : List ℕ). drop 510 s) end ∙ put_here 510 (0x55 ∷ 0xAA ∷ []) (replicate n 0) room

  pub signed : HasSignature c
  unfolding HasSignature
  signed = (above 510 (omega arith) ∙ first_at 510 s0 _ signature_there, above 511 (omega arith) ∙ index_at 510 1 s0 _ signature_there)

  logical_stands : Stands ebr.logical 0 c
  logical_stands =
      stands_on ebr.logical 0 s1 c (omega arith) (omega (arith, long, l1)) (omega (arith, l1, l2))
      (λ i low high. w1.other i (inl (omega (arith, high)))) (written_stands ebr.logical 0 s0 s1 w0)

  pub logical_bytes : slice_range c 446 462 ≡ record_bytes ebr.logical
  logical_bytes = logical_stands.bytes

  no_others : slice_range c 478 510 ≡ replicate 32 0
  no_others =
      ext_get_or 0 (take 32 (drop 478 c)) (replicate 32 0) (all ∙ sym (length-replicate {A = ℕ} 32 0))
      (λ i lt. each i (let e = all in omega (arith, lt, e))) where
        all : length (take 32 (drop 478 c)) ≡ 32
        all = length-take-le 32 (drop 478 c) (let e = length-drop 478 c in omega (arith, e, long, l2))

        each : (i : ℕ) → i < 32 → get_or (take 32 (drop 478 c)) i 0 ≡ get_or (replicate 32 0) i 0
        each i few =
            get_or-take 32 (drop 478 c) i 0 few ∙ get_or-drop 478 c i 0
            ∙ zeros_else (478 + i) (inr (inl (omega arith, omega (arith, few)))) ∙ sym (zero_of 32 i)

  pub new_read : (first : ℕ) → LinksTo first ebr.next link → IsPlainLogical ebr.logical → EbrBytes first ebr.at ebr c
  unfolding HasBootIndicators HasZeros
  new_read first leads plain =
      let logical = logical_stands.read (plain_usable _ (plain_logical _ plain)) in
      let next = w1.read (link_usable first ebr.next link leads) in
      record {
        signature = signed;
        boots = (
          subst (λ (b : ℕ). IsBootIndicator b) (sym logical_stands.boot) (plain_boot _ (plain_logical _ plain)),
          subst (λ (b : ℕ). IsBootIndicator b) (sym w1.boot) (link_boot first ebr.next link leads),
          inl (zeros_else 478 (inr (inl (omega arith, omega arith)))),
          inl (zeros_else 494 (inr (inl (omega arith, omega arith)))),
        );
        zeros = no_others;
        logical_kind = good_logical ebr.logical c plain logical;
        link_kind = good_link first ebr.next link c leads next;
        place = refl;
        logical = logical;
        next = next_of first ebr.next link c leads next;
      }
