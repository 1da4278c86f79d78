-- What ghost fields of impls are given: the prover wants it in specs/.
use Rattle.std.proofs.Common.{inl, refl, ◌∙◌, sym, ap, subst, append_assoc, length, slice_set, length-set}
use Rattle.pt_sector.specs.Sectors.{Sectors, Writes, Stopped, written}
use Rattle.std.specs.Prelude.{◌≡◌, ℕ, List, [], ◌∷◌, ◌++◌, ◌-◌}
use Rattle.std.proofs.lemmas.List.{append-nil}
use Rattle.pt_sector.specs.Device.{Told, AreReads, ReadFaults, Untouched}
use Rattle.pt_sector.specs.declared.disk.Fault.{Fault}
use Rattle.pt_sector.specs.declared.disk.Disk.{Ghosts}
use Rattle.pt_sector.specs.Overlays.{OnlyReads, ReadsThrough, own_writes, shown, FailOutside, CameOutside}
use Rattle.pt_sector.specs.declared.own.Own.{Own}

-- a disk with nothing pending is what a crash leaves
pub stopped_same : (d : Sectors) (p : Writes) → Stopped d p d
stopped_same d p = record { same_count = refl; each = λ k lt. inl refl }

pub no_faults : (old new : List Fault) → new ≡ old → ReadFaults old new
unfolding ReadFaults
no_faults old new same = ([], same ∙ sym (append-nil old), tt)

are_reads_on : (a b : List Fault) → AreReads a → AreReads b → AreReads (a ++ b)
are_reads_on [] b ra rb = rb
are_reads_on (f ∷ a) b ra rb = (ra.0, are_reads_on a b ra.1 rb)

pub faults_on : (a b c : List Fault) → ReadFaults a b → ReadFaults b c → ReadFaults a c
unfolding ReadFaults
faults_on a b c (more, come, reads) (later, comes, of_reads) = (
  more ++ later,
  comes ∙ ap (λ (l : List Fault). l ++ later) come ∙ append_assoc a more later,
  are_reads_on more later reads of_reads,
)

-- a call that only reads: the disk is the same in all that its ghosts say, but for faults of reads
module _ {D : Type 0} (count : D → ℕ) (name : D → ℕ) (reads : D → D → Type 0) (tells : Type 0) (told : D → Told)
    (faults : D → List Fault) where
  pub untouched_same : ((a : D) → reads a a) → (a : D) → (Untouched {D = D} count name reads tells told faults) a a
  untouched_same reads_same a =
      record { same_count = refl; same_name = refl; through = reads_same a; same = λ t. refl; came = no_faults (faults a) (faults a) refl }

  pub untouched_on : ((a b c : D) → reads a b → reads b c → reads a c) → (a b c : D)
      → (Untouched {D = D} count name reads tells told faults) a b → (Untouched {D = D} count name reads tells told faults) b c
      → (Untouched {D = D} count name reads tells told faults) a c
  untouched_on reads_on a b c ab bc = record {
    same_count = bc.same_count ∙ ab.same_count;
    same_name = bc.same_name ∙ ab.same_name;
    through = reads_on a b c ab.through bc.through;
    same = λ t. bc.same t ∙ ab.same t;
    came = faults_on (faults a) (faults b) (faults c) ab.came bc.came;
  }

pub through_same : {D B : _} (g : Ghosts D B) → ((a : D) → OnlyReads g a a) → (a : D) (above : List Fault) → ReadsThrough g a a above above
through_same g reads_same a above =
    record { below = reads_same a; more = []; come_above = sym (append-nil above); come_below = sym (append-nil (g.faults a)) }

pub through_on : {D B : _} (g : Ghosts D B) → ((a b c : D) → OnlyReads g a b → OnlyReads g b c → OnlyReads g a c)
    → (a b c : D) (fa fb fc : List Fault) → ReadsThrough g a b fa fb → ReadsThrough g b c fb fc → ReadsThrough g a c fa fc
through_on g reads_on a b c fa fb fc ab bc = record {
  below = reads_on a b c ab.below bc.below;
  more = ab.more ++ bc.more;
  come_above = bc.come_above ∙ ap (λ (l : List Fault). l ++ bc.more) ab.come_above ∙ append_assoc fa ab.more bc.more;
  come_below = bc.come_below ∙ ap (λ (l : List Fault). l ++ bc.more) ab.come_below ∙ append_assoc (g.faults a) ab.more bc.more;
}

-- no fault came to an overlay, or those of two calls
pub outside_same : (own : Writes) (faults : List Fault) → CameOutside own faults faults
outside_same own faults = record { more = []; come = sym (append-nil faults); outside = tt }

fail_outside_on : (own : Writes) (a b : List Fault) → FailOutside own a → FailOutside own b → FailOutside own (a ++ b)
fail_outside_on own [] b ra rb = rb
fail_outside_on own (f ∷ a) b ra rb = (ra.0, fail_outside_on own a b ra.1 rb)

pub outside_on : {b : _} (x y : Own b) (fa fb fc : List Fault) → y ≡ x → CameOutside (own_writes x) fa fb
    → CameOutside (own_writes y) fb fc → CameOutside (own_writes x) fa fc
outside_on x y fa fb fc same ab bc =
    let later : CameOutside (own_writes x) fb fc = subst (λ (o : Own _). CameOutside (own_writes o) fb fc) same bc in
    record {
      more = ab.more ++ later.more;
      come = later.come ∙ ap (λ (l : List Fault). l ++ later.more) ab.come ∙ append_assoc fa ab.more later.more;
      outside = fail_outside_on (own_writes x) ab.more later.more ab.outside later.outside;
    }

-- length
pub length-written : (ws : Writes) (d : Sectors) → length (written ws d) ≡ length d
length-written [] d = refl
length-written (w ∷ ws) d = length-written ws (slice_set d w.0 w.1) ∙ length-set d w.0 w.1

pub length-shown : {b : _} (seen : Sectors) (own : Own b) → length (shown seen own) ≡ length seen
length-shown seen own = length-written (own_writes own) seen
