-- Versions that go on.
use Rattle.std.specs.Prelude.{◌≡◌, ℕ, ◌==◌, ◌+◌, Bool, true, false, cond, not, ◌&&◌, List, [], ◌∷◌, Option}
use Rattle.std.specs.declared.option.Option.TheVariants.{None, Some}
use Rattle.std.proofs.Common.{refl, sym, ap, ◌∙◌, inl, inr}
use Rattle.ob_ring.proofs.Members.{one_of-filter}
use Rattle.std.proofs.lemmas.Bool.{true≢false, or_parts}
use Rattle.ob_base.specs.declared.params.Params.{Params}
use Rattle.ob_base.specs.declared.value.Write.{Write}
use Rattle.ob_base.specs.Tree.{path}
use Rattle.ob_tables.specs.declared.entry.Entry.{Entry}
use Rattle.ob_schedule.specs.Paths.{is_one_of, eviction_path, by_falling_level}
use Rattle.ob_ring.specs.FlatTable.{FlatTable, Row, Spot, In, Refill, after, spot_of, asked_row, fetch, leaf_shown, index_shown, mark_index, lift, reads, visit, visits, after_place, after_batch, after_final, written_row, write, after_writes, refill_order}
use Rattle.ob_ring.specs.Picked.{batch_picked, final_picked}
use Rattle.ob_ring.specs.Writing.{leaf_of_write, leaf_writes}
use Rattle.ob_ring.proofs.Refills.{FillsLaw, refill_law, writes_keep}
use Rattle.ob_ring.proofs.TableLaws.{used_final}
use Rattle.ob_stand.specs.Takes.{spots}
use Rattle.ob_stand.specs.Values.{Values, with_write, with_entries}
use Rattle.ob_stand.specs.Goes.{GoesFurther, StepsOnlyTake, VersionsGo}
use Rattle.ob_stand.proofs.Taking.{lay_there, batch_takes, final_takes}
use Rattle.ob_stand.proofs.Moving.{refill_move}

-- ---- marks

step_used : (up last : Bool) (t : FlatTable) (u j v i : ℕ) → (cond up t (cond last (lift (mark_index t u j) u) (mark_index t u j))).used v i ≡ false → t.used v i ≡ false
step_used true last t u j v i e = e
step_used false true t u j v i e = (or_parts ((v == u) && (i == j)) (t.used v i) e).1
step_used false false t u j v i e = (or_parts ((v == u) && (i == j)) (t.used v i) e).1

visits_used : (p : Params) (t : FlatTable) (own : Spot) (us : List ℕ) (v i : ℕ) → (visits p t own us).used v i ≡ false → t.used v i ≡ false
visits_used p t own [] v i e = e
visits_used p t own (u ∷ us) v i e = step_used (t.lifted u) (reads p t u + 1 == p.dummies) t u (index_shown p t own u) v i (visits_used p (visit p t own u) own us v i e)

batch_used : (p : Params) (t : FlatTable) (places : List (Option ℕ × ℕ)) (v i : ℕ) → (after_batch p t places).used v i ≡ false → t.used v i ≡ false
batch_used p t [] v i e = e
batch_used p t (a ∷ rest) v i e = visits_used p (fetch t a.0 a.1) (spot_of (asked_row t a.0)) (path p (leaf_shown t a.0 a.1)) v i (batch_used p (after_place p t a.0 a.1) rest v i e)

-- ---- writes

written_in : (o : Option ℕ) (u j : ℕ) → spot_of (written_row o) ≡ In u j → ⊥
written_in None u j e = absurd (cc)
written_in (Some x) u j e = absurd (cc)

write_lay : (b : Bool) (o : Option ℕ) (r : Option Row) (u j : ℕ) → spot_of (cond b (written_row o) r) ≡ In u j → (b ≡ false) × (spot_of r ≡ In u j)
write_lay true o r u j e = absurd (written_in o u j e)
write_lay false o r u j e = (refl, e)

writes_lay : (t : FlatTable) (ws : List (ℕ × Option ℕ)) (k u j : ℕ) → spot_of ((after_writes t ws).rows k) ≡ In u j → spot_of (t.rows k) ≡ In u j
writes_lay t [] k u j e = e
writes_lay t (w ∷ ws) k u j e = (write_lay (k == w.0) w.1 (t.rows k) u j (writes_lay (write t w.0 w.1) ws k u j e)).1

unwritten : (t : FlatTable) (ws : List (Write × Entry)) (m : Values) (k u j : ℕ) → spot_of ((after_writes t (leaf_writes ws)).rows k) ≡ In u j → with_entries m ws k ≡ m k
unwritten t [] m k u j e = refl
unwritten t (w ∷ ws) m k u j e =
    let off : (k == (w.0).key) ≡ false = (write_lay (k == (w.0).key) (leaf_of_write (w.0).value w.1) (t.rows k) u j (writes_lay (write t (w.0).key (leaf_of_write (w.0).value w.1)) (leaf_writes ws) k u j e)).0 in
    unwritten (write t (w.0).key (leaf_of_write (w.0).value w.1)) ws (with_write m w.0) k u j e
    ∙ ap (λ (b : Bool). cond b (w.0).value (m k)) off

-- ---- a refill

refill_used : (p : Params) (t : FlatTable) (f : FillsLaw p t (refill_order p t)) (u j : ℕ) (b : Bool) → is_one_of (refill_order p t) u ≡ b → (b ≡ true → t.lifted u ≡ true) → t.lifted u ≡ false → (after p t Refill).used u j ≡ false → t.used u j ≡ false
refill_used p t f u j true is up down e = absurd (true≢false (sym (up refl) ∙ down))
refill_used p t f u j false is up down e = sym (f.used_is u j ∙ ap (λ (b : Bool). not b && t.used u j) is) ∙ e

pub steps_only_take : StepsOnlyTake
steps_only_take = record {
  batch = λ p t places u o low. record {
    keys = λ k j e. lay_there (spots t) (spots (after_batch p t places)) (batch_picked p t places) k u j (batch_takes p t places o low) e;
    used = λ j e. batch_used p t places u j e;
  };
  lifts = λ p t u o low. record {
    keys = λ k j e. lay_there (spots t) (spots (after_final p t (eviction_path p t.counter))) (final_picked p t (eviction_path p t.counter)) k u j (final_takes p t (eviction_path p t.counter) o low) e;
    used = λ j e. sym (ap (λ (f : ℕ → ℕ → Bool). f u j) (used_final p t (eviction_path p t.counter))) ∙ e;
  };
  writes = λ p t ws u. record {
    keys = λ k j e. writes_lay t ws k u j e;
    used = λ j e. sym (ap (λ (f : ℕ → ℕ → Bool). f u j) (writes_keep t ws).0) ∙ e;
  };
  refill = λ p t u o down. record {
    keys = λ k j e. elim (refill_move p t k u j e) [
      | inl now ↦ absurd (true≢false (sym now.0 ∙ down))
      | inr was ↦ was
    ];
    used = λ j e. refill_used p t (refill_law p t o.sound) u j (is_one_of (refill_order p t) u) refl (λ on. (one_of-filter t.lifted (by_falling_level (p.levels + 1)) u on).0) down e;
  };
  further = λ t t1 t2 u a b. record { keys = λ k j e. a.keys k j (b.keys k j e); used = λ j e. a.used j (b.used j e) };
  unwritten = λ p t ws m k u j e. unwritten t ws m k u j e;
}

pub versions_go : VersionsGo
versions_go p old new before now t t' m m' u seals is is' leaves values = record {
  home = seals.homes u;
  generation = seals.generations u;
  base = seals.bases u;
  ranks = seals.ranks u;
  used = λ j e. sym (is.used_is u j) ∙ leaves.used j (is'.used_is u j ∙ e);
  keys = λ j k e. (is.spots_are k u j).0 (leaves.keys k j ((is'.spots_are k u j).1 e));
  values = λ j k e. values k j ((is'.spots_are k u j).1 e);
}

pub goes_further : GoesFurther
goes_further m m1 m2 v v1 v2 a b = record {
  home = b.home ∙ a.home;
  generation = b.generation ∙ a.generation;
  base = b.base ∙ a.base;
  ranks = b.ranks ∙ a.ranks;
  used = λ j e. a.used j (b.used j e);
  keys = λ j k e. a.keys j k (b.keys j k e);
  values = λ j k e. b.values j k e ∙ a.values j k (b.keys j k e);
}
