-- An end draws its words in turn.
use Rattle.std.specs.Prelude.{◌≡◌, ℕ, zero, suc, ◌+◌, ◌*◌, ◌-◌, ◌^◌, ◌<◌, ◌≤◌, ◌==◌, Bool, true, cond, List, ◌++◌, drop, length, map, slice_index, take, Option, Some, None}
use Rattle.std.specs.List.{position_or_len, range_with_len}
use Rattle.std.proofs.Common.{arith, length-append, refl, sym, ap, subst, ◌∙◌}
use Rattle.std.proofs.Math.Nat.{mul-le-mul_right}
use Rattle.std.proofs.lemmas.Bool.{eqb-true}
use Rattle.std.proofs.lemmas.List.{get_or-append-add, get_or-drop, length-drop, length-map}
use Rattle.std.proofs.lemmas.List.FromFn.{length-range_with_len}
use Rattle.std.proofs.lemmas.List.Sums.{passes_at_first}
use Rattle.ob_base.specs.declared.params.Params.{Params}
use Rattle.ob_base.specs.declared.value.Write.{Write}
use Rattle.ob_base.specs.Tree.{buckets, width}
use Rattle.ob_tables.specs.Buckets.{version_at}
use Rattle.ob_tables.specs.declared.entry.Entry.{Entry}
use Rattle.ob_end.specs.EndRuns.{end_writes, words_for_end}
use Rattle.ob_ring.proofs.Members.{one_of-filter_from, position_within}
use Rattle.ob_ring.proofs.Refills.{in_levels}
use Rattle.ob_ring.specs.Fetching.{own_entry}
use Rattle.ob_ring.specs.Filling.{words_of}
use Rattle.ob_ring.specs.FlatTable.{FinalLifts, FlatTable, after, refill_order}
use Rattle.ob_ring.specs.Writing.{entry_of, write_at}
use Rattle.ob_schedule.specs.Paths.{by_falling_level, is_one_of}
use Rattle.ob_recover.specs.Known.{slot_kept}
use Rattle.ob_recover.specs.Life.{IsPutOf, LifeState, WordId, table_now}
use Rattle.ob_recover.specs.Lives.{word_kept}
use Rattle.ob_tables.specs.Content.{Content}
use Rattle.ob_tables.specs.Rank.{ranks_of}
use Rattle.ob_fresh.specs.Drawn.{AreNextPuts, AreRanksFrom, EndDrawsNext, WordsKept}
use Rattle.ob_vault.specs.Acts.{AreTapeWords, id_write}
use Rattle.ob_vault.proofs.VersionWords.{part_at, part_many, ranked_from}

-- ---- puts

put_at : (value : Option (List ℕ)) (e : Entry) (w : WordId) → e.generation ≡ w.generation → e.index ≡ w.place → IsPutOf (word_kept (entry_of value e)) w
put_at None e w generation place = tt
put_at (Some v) e w generation place = λ i. record { generation = generation i; place = place i }

puts_next : (p : Params) (writes : List Write) (words : List ℕ) (g first a n : ℕ) → first + (a + n) ≤ 2 ^ 62 →
    AreNextPuts (record { generation = g; place = first + a }) (map id_write (map (λ i. (write_at writes i, own_entry p words (g, first) i)) (range_with_len a n)))
puts_next p writes words g first a zero small = tt
puts_next p writes words g first a (suc n) small =
    let next : first + (a + 1) ≡ (first + a) + 1 = omega arith in (
      put_at (write_at writes a).value (own_entry p words (g, first) a) (record { generation = g; place = first + a }) refl (omega (arith, small)),
      subst (λ (m : ℕ). AreNextPuts (record { generation = g; place = m }) (map id_write (map (λ i. (write_at writes i, own_entry p words (g, first) i)) (range_with_len (a + 1) n)))) next
          (puts_next p writes words g first (a + 1) n (omega (arith, small))),
    )

in_tree : (p : Params) (u : ℕ) → u < buckets p → u < 2 ^ (p.levels + 1) - 1
unfolding buckets
in_tree p u low = low

-- ---- an end

module _ (p : Params) (word_of : WordId → ℕ) (t0 : FlatTable) (g first : ℕ) (before words : List ℕ) (so_many : first ≡ length before) (c : Content) (writes : List Write) (short : length writes ≤ p.writes) (all : length words ≡ words_for_end p t0)
    (few : first + words_for_end p t0 ≤ 2 ^ 62) (within : (u : ℕ) → (after p t0 FinalLifts).lifted u ≡ true → u < buckets p)
    (ranks : (i : ℕ) → i < length (refill_order p (after p t0 FinalLifts)) → (version_at c.versions (slice_index (refill_order p (after p t0 FinalLifts)) i)).ranks ≡ ranks_of (words_of p (drop p.writes words) i))
    (tape : AreTapeWords word_of g (before ++ words)) where
  abbrev order_of : FlatTable → List ℕ
  order_of t = refill_order p (after p t FinalLifts)

  abbrev place_in : FlatTable → ℕ → ℕ
  place_in t u = position_or_len (λ v. v == u) (order_of t)

  listed : (u : ℕ) → (after p t0 FinalLifts).lifted u ≡ true → is_one_of (order_of t0) u ≡ true
  listed u up = one_of-filter_from (after p t0 FinalLifts).lifted (by_falling_level (p.levels + 1)) u up (in_levels (p.levels + 1) u (in_tree p u (within u up)))

  at_place : (u : ℕ) → is_one_of (order_of t0) u ≡ true → slice_index (order_of t0) (place_in t0 u) ≡ u
  at_place u one = eqb-true _ u (passes_at_first (λ v. v == u) (order_of t0) 0 (position_within (order_of t0) u one))

  abbrev bucket_words : ℕ → List ℕ
  bucket_words i = words_of p (drop p.writes words) i

  room : (i : ℕ) → i < length (order_of t0) → i * width p + width p ≤ length (drop p.writes words)
  room i lt =
      let rows : (i + 1) * width p ≤ length (order_of t0) * width p = mul-le-mul_right (width p) (omega (arith, lt)) in
      let many = all in
      omega (arith, rows, many, length-drop p.writes words)

  word_is : (i j : ℕ) → i < length (order_of t0) → j < width p → word_of (record { generation = g; place = ((first + p.writes) + i * width p) + j }) ≡ slice_index (bucket_words i) j
  word_is i j lt low =
      let fits = room i lt in
      let many = all in
      let start = so_many in
      let place : ((first + p.writes) + i * width p) + j ≡ length before + (p.writes + (i * width p + j)) = omega (arith, start) in
      ap (λ (n : ℕ). word_of (record { generation = g; place = n })) place
      ∙ tape (length before + (p.writes + (i * width p + j))) (omega (arith, low, fits, many, length-append before words, length-drop p.writes words))
      ∙ get_or-append-add before words (p.writes + (i * width p + j)) 0
      ∙ sym (get_or-drop p.writes words (i * width p + j) 0)
      ∙ sym (part_at (width p) (i * width p) j (drop p.writes words) low)

  ranked : (u : ℕ) → (after p t0 FinalLifts).lifted u ≡ true → AreRanksFrom p word_of (slot_kept c u) (record { generation = g; place = (first + p.writes) + place_in t0 u * width p })
  ranked u up =
      let one : is_one_of (order_of t0) u ≡ true = listed u up in
      let i : ℕ = place_in t0 u in
      let lt : i < length (order_of t0) = position_within (order_of t0) u one in
      ranked_from p word_of (slot_kept c u) (record { generation = g; place = (first + p.writes) + i * width p }) (bucket_words i)
      (part_many (width p) (i * width p) (drop p.writes words) (room i lt)) (λ j low. word_is i j lt low)
      (λ j low. ap (λ (v : ℕ). slice_index (version_at c.versions v).ranks j) (sym (at_place u one)) ∙ ap (λ (rs : List ℕ). slice_index rs j) (ranks i lt))

  abbrev fs : List (Write × Entry)
  fs = end_writes p writes words g first

  writes_many : length (map id_write fs) ≡ length writes
  writes_many = length-map fs id_write ∙ length-map (range_with_len 0 (length writes)) _ ∙ length-range_with_len 0 (length writes)

  -- in a life's own words
  module _ (s : LifeState) (k : WordsKept) (table_is : table_now p word_of s ≡ t0) (under : s.generation ≡ g) (so_far : k.drawn ≡ first) where
    ranked_in : (t : FlatTable) → t ≡ t0 → (u : ℕ) → (after p t FinalLifts).lifted u ≡ true →
        AreRanksFrom p word_of (slot_kept c u) (cond ((after p t FinalLifts).lifted u) (record { generation = s.generation; place = (k.drawn + p.writes) + place_in t u * width p }) (k.first u))
    ranked_in t is u up =
        subst (λ (b : Bool). AreRanksFrom p word_of (slot_kept c u) (cond b (record { generation = s.generation; place = (k.drawn + p.writes) + place_in t u * width p }) (k.first u))) (sym up)
        (subst (λ (w : WordId). AreRanksFrom p word_of (slot_kept c u) w) (λ i. record { generation = sym under i; place = (sym so_far i + p.writes) + place_in (sym is i) u * width p })
        (ranked u (ap (λ (x : FlatTable). (after p x FinalLifts).lifted u) (sym is) ∙ up)))

    puts : AreNextPuts (record { generation = s.generation; place = k.drawn }) (map id_write fs)
    puts =
        subst (λ (w : WordId). AreNextPuts w (map id_write fs))
        (λ i. record { generation = sym under i; place = (let z : first + 0 ≡ k.drawn = (let was = so_far in omega (arith, was)) in z i) })
        (puts_next p writes (take p.writes words) g first 0 (length writes) (let low = few in let within_writes = short in omega (arith, low, within_writes)))

    pub end_next : (drawn : ℕ) → drawn ≡ first + words_for_end p t0 → EndDrawsNext p word_of s k (map id_write fs) drawn (slot_kept c)
    end_next drawn many = record {
      few = (let low = short in omega (arith, low, writes_many));
      puts = puts;
      many = (let was = so_far in omega (arith, many, was)) ∙ ap (λ (t : FlatTable). (k.drawn + p.writes) + length (order_of t) * width p) (sym table_is);
      ranks = ranked_in (table_now p word_of s) table_is;
    }
