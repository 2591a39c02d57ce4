-- What the schedule may know of what is hidden is what is public of the life.
use Rattle.std.specs.Prelude.{◌≡◌, ℕ, suc, ◌+◌, ◌<◌, List, [], ◌∷◌, ◌++◌, length, slice_index_or}
use Rattle.std.specs.List.{flat_map, range_with_len}
use Rattle.std.proofs.Common.{arith, refl, sym, ap, ◌∙◌}
use Rattle.std.proofs.lemmas.List.{length-map}
use Rattle.ob_base.specs.Tree.{below}
use Rattle.ob_base.specs.declared.params.Params.{Params}
use Rattle.ob_log.specs.Logs.{BatchRecord}
use Rattle.ob_recover.proofs.Living.{lives_show_fills}
use Rattle.ob_recover.proofs.ShownOpening.{wide_of}
use Rattle.ob_recover.specs.Known.{gates_open, leaves_of_records, public_of_kept}
use Rattle.ob_recover.specs.Life.{LifeBatch, LifeState, WordId}
use Rattle.ob_recover.specs.LifePublic.{leaves_in, public_in}
use Rattle.ob_recover.specs.Lives.{LifeShowsFills, life_batch}
use Rattle.ob_recover.specs.Repeats.{asked_of_record}
use Rattle.ob_ring.specs.FlatTable.{Batch, FlatTable, after, reads}
use Rattle.ob_stand.proofs.Reading.{reads_are_marks}
use Rattle.ob_stand.specs.Counts.{marks_of}
use Rattle.ob_stand.specs.Table.{flat_of}
use Rattle.ob_twin.specs.declared.gates.Gates.{Gates}
use Rattle.ob_vault.proofs.Wide.{filled_leaves}
use Rattle.ob_vault.specs.Hidden.{RingHidden}
use Rattle.ob_vault.specs.Shown.{IsInLife}

-- lists by their numbers, one behind the other
joined : (xs : List (List ℕ)) (a : ℕ) (f : ℕ → List ℕ) → ((b : ℕ) → b < length xs → f (a + b) ≡ slice_index_or xs b []) → flat_map f (range_with_len a (length xs)) ≡ flat_map (λ x. x) xs
joined [] a f each = refl
joined (x ∷ xs) a f each =
    let here : f a ≡ x = ap f (let none : a ≡ a + 0 = omega arith in none) ∙ each 0 (omega arith) in
    let rest : flat_map f (range_with_len (a + 1) (length xs)) ≡ flat_map (λ y. y) xs =
    joined xs (a + 1) f (λ b lt. ap f (let next : (a + 1) + b ≡ a + suc b = omega arith in next) ∙ each (suc b) (omega (arith, lt))) in
    λ i. here i ++ rest i

-- a list for each record
lists_many : (p : Params) (t : FlatTable) (rs : List BatchRecord) → length (leaves_of_records p t rs) ≡ length rs
lists_many p t [] = refl
lists_many p t (r ∷ rs) = ap suc (lists_many p (after p t (Batch (asked_of_record p r))) rs)

module _ (p : Params) (word_of : WordId → ℕ) (s : LifeState) (h : RingHidden) (here : IsInLife p word_of h s) where
  shows : LifeShowsFills p word_of h.content h.records s
  shows = lives_show_fills p word_of h.content h.records s here.obeys here.fit here.life

  abbrev lists : List (List ℕ)
  lists = leaves_of_records p (flat_of p h.content) h.records

  begun_many : s.begun ≡ length lists
  begun_many =
      here.begun ∙ ap (λ (log : List LifeBatch). length log) (here.life).log ∙ length-map h.records life_batch
      ∙ sym (lists_many p (flat_of p h.content) h.records)

  leaves_are : flat_map (leaves_in p word_of s) (below s.begun) ≡ flat_map (λ x. x) lists
  leaves_are =
      ap (λ (n : ℕ). flat_map (leaves_in p word_of s) (range_with_len 0 n)) begun_many
      ∙ joined lists 0 (leaves_in p word_of s) (λ b lt.
      let low : b < length h.records = (let many = lists_many p (flat_of p h.content) h.records in omega (arith, lt, many)) in
      ap (leaves_in p word_of s) (let same : 0 + b ≡ b = omega arith in same) ∙ shows.labels b low ∙ filled_leaves p h.content h.records b (wide_of p h.records here.fit) low)

  counts_are : (u : ℕ) → reads p (s.content).table u ≡ marks_of h.content u
  counts_are u = ap (λ (t : FlatTable). reads p t u) (here.life).table ∙ reads_are_marks p h.content u here.obeys

  pub public_is : (gates : Gates) → public_of_kept p h.content h.records h.epoch gates ≡ public_in p word_of s (gates_open gates)
  public_is gates i = record {
    epoch = sym here.epoch i;
    homes = λ u. sym ((here.life).homes u) i;
    counts = λ u. sym (counts_are u) i;
    counter = sym (ap (λ (t : FlatTable). t.counter) (here.life).table) i;
    gates = gates_open gates;
    leaves = sym leaves_are i;
  }
