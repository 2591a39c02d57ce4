-- The sample contents, computed from the definitions.
use Rattle.std.specs.Prelude.{◌≡◌, ◌≢◌, ℕ, ◌<◌, ◌≤◌, cond, Bool, false, List, [], ◌∷◌, length, replicate, Option, slice_index_or}
use Rattle.std.specs.declared.option.Option.TheVariants.{None, Some}
use Rattle.std.specs.FinMap as finite
use Rattle.std.specs.Ordering.{nat_cmp}
use Rattle.std.proofs.Common.{zero, suc, refl, arith, sym, ap, ◌∙◌, subst}
use Rattle.std.proofs.lemmas.Bool.{ne_eqb}
use Rattle.ob_base.specs.Tree.{buckets}
use Rattle.ob_tables.specs.Version as bucket
use Rattle.ob_tables.specs.Version.{Version, AreRanks, key_at}
use Rattle.ob_tables.specs.Buckets.{version_at}
use Rattle.ob_tables.proofs.VersionLaws.{ranks_are}
use Rattle.ob_tables.specs.Content.{FitsEntry, FitsSeals, IsKeyOf, IsLoose, Obeys}
use Rattle.ob_tables.specs.Spelling.{slot_bytes}
use Rattle.ob_tables.specs.declared.entry.Entry.{Entry}
use Rattle.ob_tables.specs.Kept.{entry_at}
use Rattle.ob_ring.proofs.Rows.{p0}
use Rattle.ob_stand.specs.Numbers.{IsKnown}
use Rattle.ob_stand.specs.ContentSamples.{ContentsSampled, end_version, ended, format_version, formatted, slots, unused, values}
use Rattle.ob_stand.specs.Valued.{IsValued}

-- ---- a version

pub none_some : {X : Type 0} (o : Option X) (x : X) → o ≡ None → o ≡ Some x → ⊥
none_some o x e f = absurd (cc)

pub two_none : (j : ℕ) → ◌≡◌ {A = Option ℕ} (slice_index_or (None ∷ None ∷ []) j None) None
two_none zero = refl
two_none (suc zero) = refl
two_none (suc (suc j)) = refl

first_only : (j k : ℕ) → slice_index_or (Some 5 ∷ None ∷ []) j None ≡ Some k → (j ≡ 0) × (k ≡ 5)
first_only zero k e = (refl, (let h : 5 ≡ k = cc in sym h))
first_only (suc zero) k e = absurd (cc)
first_only (suc (suc j)) k e = absurd (cc)

pub all_unused : (j : ℕ) → slice_index_or unused j false ≡ false
all_unused zero = refl
all_unused (suc zero) = refl
all_unused (suc (suc zero)) = refl
all_unused (suc (suc (suc zero))) = refl
all_unused (suc (suc (suc (suc zero)))) = refl
all_unused (suc (suc (suc (suc (suc j))))) = refl

in_order : AreRanks (0 ∷ 1 ∷ 2 ∷ 3 ∷ 4 ∷ [])
in_order = ranks_are (0 ∷ 0 ∷ 0 ∷ 0 ∷ 0 ∷ [])

pub format_obeys : (u : ℕ) → bucket.VersionObeys p0 (format_version u)
format_obeys u = record {
  slots = record { keys = refl; ranks = refl; used = refl };
  home = omega arith;
  ranks = in_order;
  marks = record { unshown = λ j k e. all_unused j; few = omega arith };
}

pub end_obeys : (base : ℕ) (keys : List (Option ℕ)) → length keys ≡ 2 → bucket.VersionObeys p0 (end_version base keys)
end_obeys base keys many = record {
  slots = record { keys = many; ranks = refl; used = refl };
  home = omega arith;
  ranks = in_order;
  marks = record { unshown = λ j k e. all_unused j; few = omega arith };
}

pub no_entry : (n k : ℕ) → entry_at (replicate n None) k ≡ None
no_entry zero k = refl
no_entry (suc n) zero = refl
no_entry (suc n) (suc k) = no_entry n k

-- ---- after the format

pub formatted_key : (u j : ℕ) → key_at (version_at formatted.versions u) j ≡ None
formatted_key zero j = two_none j
formatted_key (suc zero) j = two_none j
formatted_key (suc (suc zero)) j = two_none j
formatted_key (suc (suc (suc zero))) j = two_none j
formatted_key (suc (suc (suc (suc zero)))) j = two_none j
formatted_key (suc (suc (suc (suc (suc zero))))) j = two_none j
formatted_key (suc (suc (suc (suc (suc (suc zero)))))) j = two_none j
formatted_key (suc (suc (suc (suc (suc (suc (suc u))))))) j = refl

pub formatted_version : (u : ℕ) → u < 7 → (bucket.VersionObeys p0 (version_at formatted.versions u)) × (FitsSeals (version_at formatted.versions u))
formatted_version zero low = (format_obeys 0, record { generation = omega arith; base = omega arith })
formatted_version (suc zero) low = (format_obeys 1, record { generation = omega arith; base = omega arith })
formatted_version (suc (suc zero)) low = (format_obeys 2, record { generation = omega arith; base = omega arith })
formatted_version (suc (suc (suc zero))) low = (format_obeys 3, record { generation = omega arith; base = omega arith })
formatted_version (suc (suc (suc (suc zero)))) low = (format_obeys 4, record { generation = omega arith; base = omega arith })
formatted_version (suc (suc (suc (suc (suc zero))))) low = (format_obeys 5, record { generation = omega arith; base = omega arith })
formatted_version (suc (suc (suc (suc (suc (suc zero)))))) low = (format_obeys 6, record { generation = omega arith; base = omega arith })
formatted_version (suc (suc (suc (suc (suc (suc (suc u))))))) low = absurd (omega arith)

pub formatted_seal : (u : ℕ) → (version_at formatted.versions u).generation ≤ 1
formatted_seal zero = omega arith
formatted_seal (suc zero) = omega arith
formatted_seal (suc (suc zero)) = omega arith
formatted_seal (suc (suc (suc zero))) = omega arith
formatted_seal (suc (suc (suc (suc zero)))) = omega arith
formatted_seal (suc (suc (suc (suc (suc zero))))) = omega arith
formatted_seal (suc (suc (suc (suc (suc (suc zero)))))) = omega arith
formatted_seal (suc (suc (suc (suc (suc (suc (suc u))))))) = omega arith

pub empty_row : (k : ℕ) (value : List ℕ) → finite.get formatted.rows k ≡ Some value → ⊥
empty_row k value e = none_some (finite.get formatted.rows k) value (finite.get-empty nat_cmp k) e

pub formatted_obeys : Obeys p0 formatted
unfolding buckets
formatted_obeys = record {
  counter = omega arith;
  book = record { many = refl; entries = λ k e is. absurd (none_some (entry_at formatted.book k) e (no_entry 8 k) is) };
  many = refl;
  versions = λ u low. (formatted_version u low).0;
  seals = λ u low. (formatted_version u low).1;
  keys = λ u j k e. absurd (none_some (key_at (version_at formatted.versions u) j) k (formatted_key u j) e);
  once = λ k u v i j e f. absurd (none_some (key_at (version_at formatted.versions u) i) k (formatted_key u i) e);
  stash = λ k. ((λ some. absurd (some (finite.get-empty nat_cmp k))), (λ h. absurd (h.0 (no_entry 8 k))));
  short = λ k value e. absurd (empty_row k value e);
  few = (let none : finite.len formatted.rows ≡ 0 = finite.len-empty nat_cmp (List ℕ) in omega arith);
}

-- ---- after the end

ended_key : (u j k : ℕ) → key_at (version_at ended.versions u) j ≡ Some k → (u ≡ 3) × (j ≡ 0) × (k ≡ 5)
ended_key zero j k e = absurd (none_some (slice_index_or (None ∷ None ∷ []) j None) k (two_none j) e)
ended_key (suc zero) j k e = absurd (none_some (slice_index_or (None ∷ None ∷ []) j None) k (two_none j) e)
ended_key (suc (suc zero)) j k e = absurd (none_some (slice_index_or (None ∷ None ∷ []) j None) k (two_none j) e)
ended_key (suc (suc (suc zero))) j k e = let at : (j ≡ 0) × (k ≡ 5) = first_only j k e in (refl, at.0, at.1)
ended_key (suc (suc (suc (suc zero)))) j k e = absurd (none_some (slice_index_or (None ∷ None ∷ []) j None) k (two_none j) e)
ended_key (suc (suc (suc (suc (suc zero))))) j k e = absurd (none_some (slice_index_or (None ∷ None ∷ []) j None) k (two_none j) e)
ended_key (suc (suc (suc (suc (suc (suc zero)))))) j k e = absurd (none_some (slice_index_or (None ∷ None ∷ []) j None) k (two_none j) e)
ended_key (suc (suc (suc (suc (suc (suc (suc u))))))) j k e = absurd (cc)

ended_version : (u : ℕ) → u < 7 → (bucket.VersionObeys p0 (version_at ended.versions u)) × (FitsSeals (version_at ended.versions u))
ended_version zero low = (end_obeys 22 (None ∷ None ∷ []) refl, record { generation = omega arith; base = omega arith })
ended_version (suc zero) low = (end_obeys 12 (None ∷ None ∷ []) refl, record { generation = omega arith; base = omega arith })
ended_version (suc (suc zero)) low = (end_obeys 17 (None ∷ None ∷ []) refl, record { generation = omega arith; base = omega arith })
ended_version (suc (suc (suc zero))) low = (end_obeys 2 (Some 5 ∷ None ∷ []) refl, record { generation = omega arith; base = omega arith })
ended_version (suc (suc (suc (suc zero)))) low = (format_obeys 4, record { generation = omega arith; base = omega arith })
ended_version (suc (suc (suc (suc (suc zero))))) low = (end_obeys 7 (None ∷ None ∷ []) refl, record { generation = omega arith; base = omega arith })
ended_version (suc (suc (suc (suc (suc (suc zero)))))) low = (format_obeys 6, record { generation = omega arith; base = omega arith })
ended_version (suc (suc (suc (suc (suc (suc (suc u))))))) low = absurd (omega arith)

ended_seal : (u : ℕ) → (version_at ended.versions u).generation ≤ 2
ended_seal zero = omega arith
ended_seal (suc zero) = omega arith
ended_seal (suc (suc zero)) = omega arith
ended_seal (suc (suc (suc zero))) = omega arith
ended_seal (suc (suc (suc (suc zero)))) = omega arith
ended_seal (suc (suc (suc (suc (suc zero))))) = omega arith
ended_seal (suc (suc (suc (suc (suc (suc zero)))))) = omega arith
ended_seal (suc (suc (suc (suc (suc (suc (suc u))))))) = omega arith

abbrev entry_of_5 : Entry
entry_of_5 = record { generation = 2; index = 4; leaf = 0 }

entry_same : (e : Entry) → Some entry_of_5 ≡ Some e → entry_of_5 ≡ e
entry_same e h = cc

ended_entry : (k : ℕ) (e : Entry) → entry_at ended.book k ≡ Some e → (k ≡ 5) × (entry_of_5 ≡ e)
ended_entry zero e h = absurd (cc)
ended_entry (suc zero) e h = absurd (cc)
ended_entry (suc (suc zero)) e h = absurd (cc)
ended_entry (suc (suc (suc zero))) e h = absurd (cc)
ended_entry (suc (suc (suc (suc zero)))) e h = absurd (cc)
ended_entry (suc (suc (suc (suc (suc zero))))) e h = (refl, entry_same e h)
ended_entry (suc (suc (suc (suc (suc (suc zero)))))) e h = absurd (cc)
ended_entry (suc (suc (suc (suc (suc (suc (suc zero))))))) e h = absurd (cc)
ended_entry (suc (suc (suc (suc (suc (suc (suc (suc k)))))))) e h = absurd (cc)

some_of : (o : Option Entry) → o ≢ None → (e : Entry) × (o ≡ Some e)
some_of None h = absurd (h refl)
some_of (Some e) h = (e, refl)

five_lies : IsLoose ended.versions 5 → ⊥
five_lies loose = loose 3 0 refl

ended_obeys : Obeys p0 ended
unfolding buckets
ended_obeys = record {
  counter = omega arith;
  book = record {
    many = refl;
    entries = λ k e is. subst (FitsEntry p0) (ended_entry k e is).1 (record { generation = omega arith; index = omega arith; leaf = omega arith });
  };
  many = refl;
  versions = λ u low. (ended_version u low).0;
  seals = λ u low. (ended_version u low).1;
  keys = λ u j k e. (let at : (u ≡ 3) × (j ≡ 0) × (k ≡ 5) = ended_key u j k e in
      subst (λ (v : ℕ). IsKeyOf p0 ended.book v k) (sym at.0) (subst (λ (x : ℕ). IsKeyOf p0 ended.book 3 x) (sym at.2) (record { entry = entry_of_5; kept = refl; on_path = refl })));
  once = λ k u v i j e f. (let a : (u ≡ 3) × (i ≡ 0) × (k ≡ 5) = ended_key u i k e in let b : (v ≡ 3) × (j ≡ 0) × (k ≡ 5) = ended_key v j k f in (a.0 ∙ sym b.0, a.1 ∙ sym b.1));
  stash = λ k. (
    (λ some. absurd (some (finite.get-empty nat_cmp k))),
    (λ h. absurd (let some : (e : Entry) × (entry_at ended.book k ≡ Some e) = some_of (entry_at ended.book k) h.0 in
        five_lies (subst (IsLoose ended.versions) (ended_entry k some.0 some.1).0 h.1))),
  );
  short = λ k value e. absurd (empty_row k value e);
  few = (let none : finite.len ended.rows ≡ 0 = finite.len-empty nat_cmp (List ℕ) in omega arith);
}

value_off : (k : ℕ) → (k ≡ 5 → ⊥) → values k ≡ None
value_off k h = ap (λ (b : Bool). cond b (Some (113 ∷ [])) None) (ne_eqb k 5 h)

ended_absent : (k : ℕ) → entry_at ended.book k ≡ None → values k ≡ None
ended_absent k e = value_off k (λ same. none_some (entry_at ended.book k) entry_of_5 e (ap (entry_at ended.book) same))

ended_valued : IsValued ended slots values
ended_valued = record {
  absent = ended_absent;
  rows = λ k value e. absurd (empty_row k value e);
  slots_are = λ u j k e. (let at : (u ≡ 3) × (j ≡ 0) × (k ≡ 5) = ended_key u j k e in
      record {
        value = 113 ∷ [];
        is = ap values at.2;
        spelled = ap (λ (x : ℕ). slot_bytes x (113 ∷ [])) (sym at.2);
        short = omega arith;
      });
}

pub formatted_known : IsKnown formatted 1
formatted_known = record { entries = λ k e is. absurd (none_some (entry_at formatted.book k) e (no_entry 8 k) is); seals = formatted_seal }

pub formatted_valued : IsValued formatted slots (λ k. None)
formatted_valued = record {
  absent = λ k e. refl;
  rows = λ k value e. absurd (empty_row k value e);
  slots_are = λ u j k e. absurd (none_some (key_at (version_at formatted.versions u) j) k (formatted_key u j) e);
}

pub sampled : ContentsSampled
unfolding buckets
sampled = record {
  p = p0;
  numbers = refl;
  formatted_obeys = formatted_obeys;
  formatted_known = formatted_known;
  formatted_valued = formatted_valued;
  no_row = refl;
  no_mark = refl;
  ended_obeys = ended_obeys;
  ended_known = record { entries = λ k e is. subst (λ (x : Entry). x.generation ≤ 2) (ended_entry k e is).1 (omega arith); seals = ended_seal };
  ended_valued = ended_valued;
  one_row = refl;
  homes = refl;
  same_rows = refl;
  same_marks = refl;
  same_counter = refl;
  picked = refl;
}
