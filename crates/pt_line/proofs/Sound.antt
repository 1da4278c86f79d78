-- What the values of each command's arguments may be.
use Rattle.std.proofs.Common.{◌≡◌, ◌∙◌, ◌||◌, ◌⊎◌, inl, inr, Bool, true, false, refl, sym, subst, arith, List, [], ◌∷◌, ◌++◌, true≢false}
use Rattle.std.proofs.Common.{codes}
use Rattle.std.specs.Borrow.{Bor}
use Rattle.std.specs.List.{list_any}
use Rattle.std.specs.Str.{bytes_eq}
use Rattle.std.proofs.lemmas.Slice.Eq.{bytes_eq-Decides}
use Rattle.clap.specs.Simple.{filled, filled_from, help_rule}
use Rattle.clap.specs.Walk.{Rule, Text, texts}
use Rattle.clap.proofs.WalkLemmas.{list_any-map}
use Rattle.pt_line.specs.CommandLine.{by_table, device, free_rules, human, image_rules, in_use, json, keep_primary, mend_rules, no_lock}
use Rattle.pt_line.specs.CommandLine.{other_device, other_rules, place_rules, plan_only, plan_rules, sector_size, show_rules}
use Rattle.pt_line.specs.CommandLine.{table_rules, word_rules, writing}
use Rattle.pt_line.proofs.Rows.{Each, IsSound}

-- the sector's size is one of two texts
abbrev pub MayBe : Text → Text → Type 0
MayBe id v = bytes_eq id (codes "sector-size") ≡ true → (v ≡ codes "512") ⊎ (v ≡ codes "4096")

abbrev pub built_rules : List Rule → List Rule
built_rules rules = filled_from 1 (rules ++ help_rule ∷ [])

-- a flag's value isn't a size
device_sound : IsSound MayBe (filled device)
device_sound = ((omega arith, λ v e is. absurd (true≢false (sym is))), ((λ is. absurd (true≢false (sym is))), tt))

in_use_sound : IsSound MayBe (filled in_use)
in_use_sound = ((omega arith, λ v e is. absurd (true≢false (sym is))), ((λ is. absurd (true≢false (sym is))), tt))

other_device_sound : IsSound MayBe (filled other_device)
other_device_sound = ((omega arith, λ v e is. absurd (true≢false (sym is))), ((λ is. absurd (true≢false (sym is))), tt))

no_lock_sound : IsSound MayBe (filled no_lock)
no_lock_sound = ((omega arith, λ v e is. absurd (true≢false (sym is))), ((λ is. absurd (true≢false (sym is))), tt))

human_sound : IsSound MayBe (filled human)
human_sound = ((omega arith, λ v e is. absurd (true≢false (sym is))), ((λ is. absurd (true≢false (sym is))), tt))

json_sound : IsSound MayBe (filled json)
json_sound = ((omega arith, λ v e is. absurd (true≢false (sym is))), ((λ is. absurd (true≢false (sym is))), tt))

plan_only_sound : IsSound MayBe (filled plan_only)
plan_only_sound = ((omega arith, λ v e is. absurd (true≢false (sym is))), ((λ is. absurd (true≢false (sym is))), tt))

keep_primary_sound : IsSound MayBe (filled keep_primary)
keep_primary_sound = ((omega arith, λ v e is. absurd (true≢false (sym is))), ((λ is. absurd (true≢false (sym is))), tt))

by_table_sound : IsSound MayBe (filled by_table)
by_table_sound = ((omega arith, λ v e is. absurd (true≢false (sym is))), ((λ is. absurd (true≢false (sym is))), tt))

module _ (sizes : Bor (List (Bor Text))) (are : texts sizes.now ≡ codes "512" ∷ codes "4096" ∷ []) where
  one_of_two : (v : Text) → list_any (λ (n : Bor Text). bytes_eq n.now v) sizes.now ≡ true → MayBe (codes "sector-size") v
  one_of_two v e is =
      let among : (bytes_eq (codes "512") v || (bytes_eq (codes "4096") v || false)) ≡ true =
      subst (λ (ts : List Text). list_any (λ (t : Text). bytes_eq t v) ts ≡ true) are
      (sym (list_any-map (λ (t : Text). bytes_eq t v) (λ (n : Bor Text). n.now) sizes.now) ∙ e) in
      go (bytes_eq (codes "512") v) refl (bytes_eq (codes "4096") v) refl among
    where
      go : (a : Bool) → bytes_eq (codes "512") v ≡ a → (b : Bool) → bytes_eq (codes "4096") v ≡ b → (a || (b || false)) ≡ true
          → (v ≡ codes "512") ⊎ (v ≡ codes "4096")
      go true x b y h = inl (sym ((bytes_eq-Decides (codes "512") v).0 x))
      go false x true y h = inr (sym ((bytes_eq-Decides (codes "4096") v).0 y))
      go false x false y h = absurd (true≢false (sym h))

  sizes_sound : IsSound MayBe (filled (sector_size sizes))
  sizes_sound = ((omega arith, one_of_two), tt)

  pub image_sound : Each (IsSound MayBe) (built_rules (image_rules sizes))
  image_sound = (((omega arith, λ v e is. absurd (true≢false (sym is))), tt), (device_sound, (sizes_sound, ((tt, tt), tt))))

  pub free_sound : Each (IsSound MayBe) (built_rules (free_rules sizes))
  free_sound = (
    ((omega arith, λ v e is. absurd (true≢false (sym is))), tt),
    (json_sound, (device_sound, (sizes_sound, ((tt, tt), tt)))),
  )

  pub types_sound : Each (IsSound MayBe) (built_rules [])
  types_sound = ((tt, tt), tt)

  pub show_sound : Each (IsSound MayBe) (built_rules (show_rules sizes))
  show_sound = (
    ((omega arith, λ v e is. absurd (true≢false (sym is))), tt),
    (
      (
        (omega arith, λ v e is. absurd (true≢false (sym is))),
        tt,
      ),
      (
        ((omega arith, λ v e is. absurd (true≢false (sym is))), tt),
        (json_sound, (human_sound, (device_sound, (sizes_sound, ((tt, tt), tt))))),
      ),
    ),
  )

  pub place_sound : Each (IsSound MayBe) (built_rules (place_rules sizes))
  place_sound = (
    ((omega arith, λ v e is. absurd (true≢false (sym is))), tt),
    (
      (
        (omega arith, λ v e is. absurd (true≢false (sym is))),
        tt,
      ),
      (((omega arith, λ v e is. absurd (true≢false (sym is))), tt), (device_sound, (sizes_sound, ((tt, tt), tt)))),
    ),
  )

  pub word_sound : Each (IsSound MayBe) (built_rules (word_rules sizes))
  word_sound = (
    ((omega arith, λ v e is. absurd (true≢false (sym is))), tt),
    (
      (
        (omega arith, λ v e is. absurd (true≢false (sym is))),
        tt,
      ),
      (
        keep_primary_sound,
        (device_sound, (sizes_sound, (((omega arith, λ v e is. absurd (true≢false (sym is))), tt), ((tt, tt), tt)))),
      ),
    ),
  )

  pub plan_sound : Each (IsSound MayBe) (built_rules (plan_rules sizes))
  plan_sound = (
    ((omega arith, λ v e is. absurd (true≢false (sym is))), tt),
    (
      (
        (omega arith, λ v e is. absurd (true≢false (sym is))),
        tt,
      ),
      (device_sound, (sizes_sound, ((tt, tt), tt))),
    ),
  )

  pub mend_writing_sound : Each (IsSound MayBe) (built_rules (writing (mend_rules sizes)))
  mend_writing_sound = (
    ((omega arith, λ v e is. absurd (true≢false (sym is))), tt),
    (keep_primary_sound, (device_sound, (sizes_sound, (in_use_sound, (no_lock_sound, ((tt, tt), tt)))))),
  )

  pub word_writing_sound : Each (IsSound MayBe) (built_rules (writing (word_rules sizes)))
  word_writing_sound = (
    ((omega arith, λ v e is. absurd (true≢false (sym is))), tt),
    (
      (
        (
          omega arith,
          λ v e is. absurd (true≢false (sym
              is)),
        ),
        tt,
      ),
      (
        keep_primary_sound,
        (
          device_sound,
          (
            sizes_sound,
            (
              ((omega arith, λ v e is. absurd (true≢false (sym is))), tt),
              (
                in_use_sound,
                (no_lock_sound, ((tt, tt), tt)),
              ),
            ),
          ),
        ),
      ),
    ),
  )

  pub plan_writing_sound : Each (IsSound MayBe) (built_rules (writing (plan_rules sizes)))
  plan_writing_sound = (
    ((omega arith, λ v e is. absurd (true≢false (sym is))), tt),
    (
      (
        (
          omega arith,
          λ v e is. absurd (true≢false (sym
              is)),
        ),
        tt,
      ),
      (device_sound, (sizes_sound, (in_use_sound, (no_lock_sound, ((tt, tt), tt))))),
    ),
  )

  pub other_writing_sound : Each (IsSound MayBe) (built_rules (writing (other_rules sizes)))
  other_writing_sound = (
    ((omega arith, λ v e is. absurd (true≢false (sym is))), tt),
    (
      ((omega arith, λ v e is. absurd (true≢false (sym is))), tt),
      (
        ((omega arith, λ v e is. absurd (true≢false (sym is))), tt),
        (
          plan_only_sound,
          (
            by_table_sound,
            (
              other_device_sound,
              (device_sound, (sizes_sound, (in_use_sound, (no_lock_sound, ((tt, tt), tt))))),
            ),
          ),
        ),
      ),
    ),
  )

  pub table_writing_sound : Each (IsSound MayBe) (built_rules (writing (table_rules sizes)))
  table_writing_sound = (
    ((omega arith, λ v e is. absurd (true≢false (sym is))), tt),
    (
      (
        (
          omega arith,
          λ v e is. absurd (true≢false (sym
              is)),
        ),
        tt,
      ),
      (
        plan_only_sound,
        (
          ((omega arith, λ v e is. absurd (true≢false (sym is))), tt),
          (
            by_table_sound,
            (
              device_sound,
              (
                sizes_sound,
                (in_use_sound, (no_lock_sound, ((tt, tt), tt))),
              ),
            ),
          ),
        ),
      ),
    ),
  )
