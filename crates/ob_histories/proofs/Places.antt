-- The places of a batch are taken, and what is known keeps standing for what is public.
use Rattle.std.specs.Prelude.{◌≡◌, ◌<◌, ◌≤◌, ℕ, ◌+◌, ◌==◌, ◌&&◌, ◌^◌, Bool, true, false, cond, List, [], ◌∷◌, ◌++◌, map, take, slice_index, length, Option, Some, None}
use Rattle.std.specs.List.{count_by, flat_map, range_with_len}
use Rattle.std.proofs.Common.{zero, suc, refl, sym, ap, ◌∙◌, subst, arith, append_assoc, add_assoc}
use Rattle.std.proofs.lemmas.List.{take_more}
use Rattle.std.proofs.lemmas.List.FromFn.{length-map-range_with_len, get_or-map-range_with_len}
use Rattle.ob_base.specs.declared.params.Params.{Params}
use Rattle.ob_base.specs.Tree.{passes}
use Rattle.ob_base.specs.Layout.{slot_cell}
use Rattle.ob_store.specs.declared.watch.Note.{Note}
use Rattle.ob_store.specs.declared.watch.Note.TheVariants.{Label, Read}
use Rattle.ob_schedule.specs.Holes.{Hole, place_holes}
use Rattle.ob_schedule.specs.Schedule.{counts_now, hole_reads, batch_leaves}
use Rattle.ob_schedule.specs.declared.line.Line.TheVariants as L
use Rattle.ob_schedule.specs.declared.want.Side.{Side}
use Rattle.ob_schedule.specs.declared.want.Gate.{Gate}
use Rattle.ob_schedule.specs.declared.want.Want.{Want}
use Rattle.ob_schedule.specs.declared.want.Want.TheVariants.{Place}
use Rattle.ob_schedule.specs.Sides.{side_number}
use Rattle.ob_schedule.specs.Standing.{StandingKnown, public_known, with_label, with_slot}
use Rattle.ob_schedule.specs.Follow.{Follow, TakesLine, taken_up, MayShow, MayLabel, ShowsSlot}
use Rattle.ob_histories.specs.Fills.{AllFills, AreAllFills, public_at, fills_at, leaves_of_batches, version_filled}
use Rattle.ob_histories.proofs.Lists.{count_more, take_whole}
use Rattle.ob_histories.proofs.Standing.{Holds, IsKnown, IsHole, filled_slot, slot_holds, slot_new, label_holds}
use Rattle.ob_histories.proofs.Holes.{AreHoles, count_before, place_are}
use Rattle.ob_histories.proofs.Walks.{Walk, walk_none, walk_note, walk_join, Stops, up_stops}

-- a run behind its opening
abbrev pub at : Params → StandingKnown → ℕ → List ℕ → List Hole → List Want → Follow
at p s batch leaves holes wants =
    record { params = p; formatted = true; runs = true; stands = s; newer = None; chosen = false; batch = batch; leaves = leaves; holes = holes; wants = wants }

-- what labels and slots don't change
abbrev pub rest_of : StandingKnown → Side × (Gate × (Gate × (ℕ × Bool)))
rest_of s = (s.generation, (s.generation_gate, (s.epoch_gate, (s.logged, s.maybe))))

-- what is known in an epoch, while the rest stays
abbrev pub Known : Params → AllFills → ℕ → Side × (Gate × (Gate × (ℕ × Bool))) → StandingKnown → Type 0
Known p f epoch rest s = Holds p f s epoch × (rest_of s ≡ rest)

abbrev pub InEpoch : Params → AllFills → ℕ → Side × (Gate × (Gate × (ℕ × Bool))) → StandingKnown → Option StandingKnown → Type 0
InEpoch p f epoch rest s newer = (newer ≡ None) × Known p f epoch rest s

abbrev pub Keeps : Params → AllFills → ℕ → Side × (Gate × (Gate × (ℕ × Bool))) → ℕ → Follow → Type 0
Keeps p f epoch rest = λ lacking. Stops p (InEpoch p f epoch rest)

pub slot_rest : (s : StandingKnown) (h : Hole) (slot : ℕ) → rest_of (with_slot s h slot) ≡ rest_of s
slot_rest s h slot = go (s.slots h)
  where
    go : (o : Option ℕ) → rest_of (elim o [
      | None ↦ record s {
        used = λ u x. cond ((h.bucket == u) && (slot == x)) true (s.used u x);
        slots = λ g. cond ((h.bucket == g.bucket) && (h.number == g.number)) (Some slot) (s.slots g);
      }
      | Some x ↦ s
    ]) ≡ rest_of s
    go None = refl
    go (Some x) = refl

pub label_rest : (s : StandingKnown) (batch place leaf : ℕ) → rest_of (with_label s batch place leaf) ≡ rest_of s
label_rest s batch place leaf = go (s.labels batch place)
  where
    go : (o : Option ℕ) → rest_of (elim o [ None ↦ record s { labels = λ b i. cond ((batch == b) && (place == i)) (Some leaf) (s.labels b i) } | Some x ↦ s ]) ≡ rest_of s
    go None = refl
    go (Some x) = refl

module _ (p : Params) (f : AllFills) (all : AreAllFills p f) (epoch : ℕ) (rest : Side × (Gate × (Gate × (ℕ × Bool)))) where
  -- a slot may be shown
  may_show : (s : StandingKnown) (b : ℕ) (ls : List ℕ) (h : Hole) (hs : List Hole) (ws : List Want) → Holds p f s epoch → IsHole p f epoch h → (o : Option ℕ) → s.slots h ≡ o
      → MayShow (at p s b ls (h ∷ hs) ws) h o (filled_slot p f epoch h)
  may_show s b ls h hs ws holds hole None is = (all.slots h.bucket (version_filled p f epoch h.bucket) h.number, slot_new p f s epoch h holds hole all is)
  may_show s b ls h hs ws holds hole (Some x) is = (let known : x ≡ filled_slot p f epoch h = subst (λ (o : Option ℕ). IsKnown o (filled_slot p f epoch h)) is (holds.slots h) in sym known)

  pub walk_holes : (s : StandingKnown) (b : ℕ) (ls : List ℕ) (hs : List Hole) (ws : List Want) → Known p f epoch rest s → AreHoles p f epoch hs
      → (t : StandingKnown) × (Known p f epoch rest t × Walk (Keeps p f epoch rest) (taken_up (at p s b ls hs ws)) (hole_reads p (public_at p f epoch) (fills_at p f epoch) hs) (taken_up (at p t b ls [] ws)))
  walk_holes s b ls [] ws known are = (s, (known, walk_none (Keeps p f epoch rest) (taken_up (at p s b ls [] ws)) (up_stops p (InEpoch p f epoch rest) (at p s b ls [] ws) (refl, (refl, (refl, known))))))
  walk_holes s b ls (h ∷ hs) ws known are =
      let slot : ℕ = filled_slot p f epoch h in
      let s1 : StandingKnown = with_slot s h slot in
      let known1 : Known p f epoch rest s1 = (slot_holds p f s epoch h known.0 are.0, slot_rest s h slot ∙ known.1) in
      let more = walk_holes s1 b ls hs ws known1 are.1 in
      let note : Note = Read (slot_cell p ((public_at p f epoch).homes h.bucket) h.bucket slot) in
      let is : note ≡ Read (slot_cell p (side_number (s.homes h.bucket)) h.bucket slot) = ap (λ (home : ℕ). Read (slot_cell p home h.bucket slot)) (sym (known.0.homes h.bucket)) in
      let shows : ShowsSlot (at p s b ls (h ∷ hs) ws) h note slot = record { is = is; may = may_show s b ls h hs ws known.0 are.0 (s.slots h) refl } in
      (more.0, (more.1.0, walk_note (Keeps p f epoch rest) (at p s b ls (h ∷ hs) ws) (taken_up (at p s1 b ls hs ws)) (taken_up (at p more.0 b ls [] ws)) note _ (slot, (shows, refl)) (refl, (refl, (refl, known))) more.1.1))

  -- how often a place's buckets were read before it
  pub same_before : (s : StandingKnown) (b i : ℕ) (ls : List ℕ) → Holds p f s epoch → ls ≡ leaves_of_batches p f (suc epoch) b ++ take i (batch_leaves p (fills_at p f epoch) b)
      → counts_now p (public_known p s ls) ≡ count_before p f epoch b i
  same_before s b i ls holds is =
      let was : List ℕ = leaves_of_batches p f (suc epoch) b in
      let now : List ℕ = take i (batch_leaves p (fills_at p f epoch) b) in
      λ j u. ((λ k. holds.counts u k + count_by (passes p u) (is k)) ∙ ap (λ (n : ℕ). (public_at p f epoch).counts u + n) (count_more (passes p u) was now)
      ∙ sym (add_assoc ((public_at p f epoch).counts u) (count_by (passes p u) was) (count_by (passes p u) now))) j

  pub leaf_at : (b i : ℕ) → i < p.places → slice_index (batch_leaves p (fills_at p f epoch) b) i ≡ f.leaf (suc epoch) b i
  leaf_at b i low = get_or-map-range_with_len (f.leaf (suc epoch) b) 0 p.places i i 0 low (omega arith)

  -- a label may be shown
  pub may_label : (s : StandingKnown) (g : Follow) (b i : ℕ) → g.params ≡ p → Holds p f s epoch → i < p.places → (o : Option ℕ) → s.labels b i ≡ o → MayLabel g o (slice_index (batch_leaves p (fills_at p f epoch) b) i)
  may_label s g b i same holds low None is = (let is_low : f.leaf (suc epoch) b i < 2 ^ p.levels = all.leaves (suc epoch) b i in
      subst (λ (q : Params). slice_index (batch_leaves p (fills_at p f epoch) b) i < 2 ^ q.levels) (sym same) (subst (λ (leaf : ℕ). leaf < 2 ^ p.levels) (sym (leaf_at b i low)) is_low))
  may_label s g b i same holds low (Some x) is = (let known : x ≡ f.leaf (suc epoch) b i = subst (λ (o : Option ℕ). IsKnown o (f.leaf (suc epoch) b i)) is (holds.labels b i) in leaf_at b i low ∙ sym known)

  -- what a place shows
  abbrev pub place_notes : ℕ → ℕ → List Note
  place_notes b i = Label (slice_index (batch_leaves p (fills_at p f epoch) b) i)
      ∷ hole_reads p (public_at p f epoch) (fills_at p f epoch) (place_holes p (count_before p f epoch b i) (slice_index (batch_leaves p (fills_at p f epoch) b) i))

  -- a place whose label is taken, and the reads behind it
  pub walk_label : (g : Follow) (s : StandingKnown) (c b i : ℕ) (ls : List ℕ) (ws : List Want) → Known p f epoch rest s → b < p.batches → i < p.places
      → ls ≡ leaves_of_batches p f (suc epoch) b ++ take i (batch_leaves p (fills_at p f epoch) b)
      → ((next : Follow) → next ≡ taken_up (at p (with_label s b i (slice_index (batch_leaves p (fills_at p f epoch) b) i)) c (ls ++ slice_index (batch_leaves p (fills_at p f epoch) b) i ∷ [])
      (place_holes p (counts_now p (public_known p s ls)) (slice_index (batch_leaves p (fills_at p f epoch) b) i)) ws) → TakesLine g (L.Note (Label (slice_index (batch_leaves p (fills_at p f epoch) b) i))) next)
      → Stops p (InEpoch p f epoch rest) g
      → (t : StandingKnown) × (Known p f epoch rest t × Walk (Keeps p f epoch rest) g (place_notes b i) (taken_up (at p t c (ls ++ slice_index (batch_leaves p (fills_at p f epoch) b) i ∷ []) [] ws)))
  walk_label g s c b i ls ws known few low is takes stops =
      let leaf : ℕ = slice_index (batch_leaves p (fills_at p f epoch) b) i in
      let ls1 : List ℕ = ls ++ leaf ∷ [] in
      let s1 : StandingKnown = with_label s b i leaf in
      let known1 : Known p f epoch rest s1 = (label_holds p f s epoch b i leaf known.0 (leaf_at b i low), label_rest s b i leaf ∙ known.1) in
      let hs : List Hole = place_holes p (count_before p f epoch b i) leaf in
      let same : place_holes p (counts_now p (public_known p s ls)) leaf ≡ hs = ap (λ (count : ℕ → ℕ). place_holes p count leaf) (same_before s b i ls known.0 is) in
      let walk = walk_holes s1 c ls1 hs ws known1 (place_are p f epoch b i few low) in
      let next : Follow = taken_up (at p s1 c ls1 hs ws) in
      let took : TakesLine g (L.Note (Label leaf)) next = takes next (ap (λ (xs : List Hole). taken_up (at p s1 c ls1 xs ws)) (sym same)) in
      (walk.0, (walk.1.0, walk_note (Keeps p f epoch rest) g next (taken_up (at p walk.0 c ls1 [] ws)) (Label leaf) _ took stops walk.1.1))

  pub one_more : (b i : ℕ) (ls : List ℕ) → i < p.places → ls ≡ leaves_of_batches p f (suc epoch) b ++ take i (batch_leaves p (fills_at p f epoch) b)
      → ls ++ slice_index (batch_leaves p (fills_at p f epoch) b) i ∷ [] ≡ leaves_of_batches p f (suc epoch) b ++ take (i + 1) (batch_leaves p (fills_at p f epoch) b)
  one_more b i ls low is =
      let leaves : List ℕ = batch_leaves p (fills_at p f epoch) b in
      let many : length leaves ≡ p.places = length-map-range_with_len (f.leaf (suc epoch) b) 0 p.places in
      ap (λ (xs : List ℕ). xs ++ slice_index leaves i ∷ []) is ∙ append_assoc (leaves_of_batches p f (suc epoch) b) (take i leaves) (slice_index leaves i ∷ [])
      ∙ ap (λ (xs : List ℕ). leaves_of_batches p f (suc epoch) b ++ xs) (sym (take_more leaves i 0 (omega (arith, low, many))))

  pub all_shown : (b i : ℕ) (ls : List ℕ) → p.places ≤ i → ls ≡ leaves_of_batches p f (suc epoch) b ++ take i (batch_leaves p (fills_at p f epoch) b) → ls ≡ leaves_of_batches p f (suc epoch) (suc b)
  all_shown b i ls whole is =
      let leaves : List ℕ = batch_leaves p (fills_at p f epoch) b in
      let many : length leaves ≡ p.places = length-map-range_with_len (f.leaf (suc epoch) b) 0 p.places in
      is ∙ ap (λ (xs : List ℕ). leaves_of_batches p f (suc epoch) b ++ xs) (take_whole i leaves (omega (arith, whole, many)))

  -- the places from one on
  pub walk_places : (n : ℕ) (s : StandingKnown) (c b i : ℕ) (ls : List ℕ) → Known p f epoch rest s → b < p.batches → i + n ≡ p.places
      → ls ≡ leaves_of_batches p f (suc epoch) b ++ take i (batch_leaves p (fills_at p f epoch) b)
      → (t : StandingKnown) × (Known p f epoch rest t
      × Walk (Keeps p f epoch rest) (taken_up (at p s c ls [] (map (λ j. Place b j) (range_with_len i n)))) (flat_map (place_notes b) (range_with_len i n)) (taken_up (at p t c (leaves_of_batches p f (suc epoch) (suc b)) [] [])))
  walk_places zero s c b i ls known few whole is =
      let done : ls ≡ leaves_of_batches p f (suc epoch) (suc b) = all_shown b i ls (omega (arith, whole)) is in
      let end : Follow = taken_up (at p s c ls [] []) in (
        s,
        (
          known,
          subst (λ (xs : List ℕ). Walk (Keeps p f epoch rest) end [] (taken_up (at p s c xs [] []))) done
              (walk_none (Keeps p f epoch rest) end (up_stops p (InEpoch p f epoch rest) (at p s c ls [] []) (refl, (refl, (refl, known))))),
        ),
      )
  walk_places (suc n) s c b i ls known few whole is =
      let leaf : ℕ = slice_index (batch_leaves p (fills_at p f epoch) b) i in
      let low : i < p.places = omega (arith, whole) in
      let ws : List Want = map (λ j. Place b j) (range_with_len (i + 1) n) in
      let g : Follow = at p s c ls [] (Place b i ∷ ws) in
      let one = walk_label g s c b i ls ws known few low is
      (λ next same. (leaf, (record { is = refl; may = may_label s g b i refl known.0 low (s.labels b i) refl }, same))) (refl, (refl, (refl, known))) in
      let more = walk_places n one.0 c b (i + 1) (ls ++ leaf ∷ []) one.1.0 few (omega (arith, whole)) (one_more b i ls low is) in (
        more.0,
        (
          more.1.0,
          walk_join (Keeps p f epoch rest) g (taken_up (at p one.0 c (ls ++ leaf ∷ []) [] ws)) (taken_up (at p more.0 c (leaves_of_batches p f (suc epoch) (suc b)) [] [])) (place_notes b i)
              (flat_map (place_notes b) (range_with_len (i + 1) n)) one.1.1 more.1.1,
        ),
      )
