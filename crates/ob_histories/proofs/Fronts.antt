-- Notes that are taken with the fills' labels and slots: what they are, by what is wanted on the way.
use Rattle.std.specs.Prelude.{◌≡◌, ◌<◌, ◌≤◌, ◌⊎◌, ℕ, ◌+◌, ◌%◌, Bool, true, List, [], ◌∷◌, ◌++◌, map, take, slice_index, length, Option, Some, None}
use Rattle.std.specs.List.{flat_map, range_with_len}
use Rattle.std.proofs.Common.{zero, suc, refl, sym, ap, ◌∙◌, subst, subst₂, inl, inr, arith, append_assoc}
use Rattle.std.proofs.lemmas.List.{length-append}
use Rattle.ob_base.specs.declared.params.Params.{Params}
use Rattle.ob_base.specs.Layout.{slot_cell}
use Rattle.ob_store.specs.declared.watch.Note.{Note}
use Rattle.ob_store.specs.declared.watch.Note.TheVariants.{Label, Read}
use Rattle.ob_schedule.specs.Holes.{Hole, place_holes}
use Rattle.ob_schedule.specs.Schedule.{counts_now, hole_reads, batch_leaves}
use Rattle.ob_schedule.specs.declared.line.Line.TheVariants as L
use Rattle.ob_schedule.specs.declared.want.Side.{Side}
use Rattle.ob_schedule.specs.declared.want.Gate.{Gate}
use Rattle.ob_schedule.specs.declared.want.Want.{Want}
use Rattle.ob_schedule.specs.declared.want.Want.TheVariants.{Place}
use Rattle.ob_schedule.specs.Sides.{other, side_number}
use Rattle.ob_schedule.specs.Standing.{StandingKnown, public_known, with_label, with_slot}
use Rattle.ob_schedule.specs.Wants.{kept}
use Rattle.ob_schedule.specs.Follow.{Follow, TakesLine, taken_up}
use Rattle.ob_histories.specs.Fills.{AllFills, AreAllFills, public_at, fills_at, leaves_of_batches}
use Rattle.ob_histories.specs.Runs.{RunFound}
use Rattle.ob_histories.specs.Filled.{IsOfFills, epoch_behind}
use Rattle.ob_histories.proofs.Standing.{Holds, filled_slot, slot_holds, label_holds}
use Rattle.ob_histories.proofs.Holes.{AreHoles, count_before, place_are}
use Rattle.ob_histories.proofs.Places.{at, rest_of, label_rest, slot_rest, leaf_at, same_before, one_more, all_shown, place_notes}
use Rattle.ob_histories.proofs.Finding.{GateMay, RecordsMay}

pub slots_apart : (p : Params) (home u s t : ℕ) → slot_cell p home u s ≡ slot_cell p home u t → s ≡ t
slots_apart p home u s t same = omega (arith, same)

pub same_read : (c d : ℕ) (n : Note) → n ≡ Read c → n ≡ Read d → c ≡ d
same_read c d n a b = cc

pub same_label : (x y : ℕ) (n : Note) → n ≡ Label x → n ≡ Label y → x ≡ y
same_label x y n a b = cc

-- ---- fronts

-- of each front that isn't the whole
abbrev pub Fronts : List Note → (List Note → Type 0) → Type 0
Fronts notes Q = (ms rest : List Note) → ms ++ rest ≡ notes → 0 < length rest → Q ms

pub front_left : (Q : List Note → Type 0) (xs ys : List Note) → Fronts (xs ++ ys) Q → Fronts xs Q
front_left Q xs ys stops ms rest is some = stops ms (rest ++ ys) (sym (append_assoc ms rest ys) ∙ ap (λ (ns : List Note). ns ++ ys) is) (omega (arith, some, length-append rest ys))

pub front_right : (Q : List Note → Type 0) (xs ys : List Note) → Fronts (xs ++ ys) Q → Fronts ys (λ ms. Q (xs ++ ms))
front_right Q xs ys stops ms rest is some = stops (xs ++ ms) rest (append_assoc xs ms rest ∙ ap (λ (ns : List Note). xs ++ ns) is) some

pub front_first : (Q : List Note → Type 0) (notes : List Note) → 0 < length notes → Fronts notes Q → Q []
front_first Q notes some stops = stops [] notes refl some

pub is_front : (ms rest : List Note) → take (length ms) (ms ++ rest) ≡ ms
is_front [] rest = refl
is_front (m ∷ ms) rest = ap (λ (ns : List Note). m ∷ ns) (is_front ms rest)

-- ---- what is found behind a stop

abbrev pub Rest : Type 0
Rest = Side × (Gate × (Gate × (ℕ × Bool)))

-- the gates and records as they may be
pub record Exactly (epoch generation : ℕ) (rest : Rest) (y : RunFound) : Type 0 where
  pub at_epoch : y.epoch ≡ epoch
  pub of_generation : y.generation ≡ generation
  pub generation_gate : GateMay rest.1.0 y.generation_gate
  pub epoch_gate : GateMay rest.1.1.0 y.epoch_gate
  pub records : RecordsMay rest.1.1.1.0 rest.1.1.1.1 y.records

pub record IsSure (p : Params) (generation : ℕ) (rest : Rest) : Type 0 where
  pub side : side_number rest.0 ≡ generation % 2
  pub few : rest.1.1.1.0 ≤ p.batches
  pub more : rest.1.1.1.1 ≡ true → rest.1.1.1.0 < p.batches

module _ (p : Params) (f : AllFills) where
  abbrev pub Sure : ℕ → ℕ → StandingKnown → Type 0
  Sure epoch generation s = Holds p f s epoch × IsSure p generation (rest_of s)

  abbrev pub Stood : ℕ → ℕ → StandingKnown → Option StandingKnown → Type 0
  Stood epoch generation s None = Sure epoch generation s
  Stood epoch generation s (Some newer) = Sure epoch generation s × (Sure (suc epoch) generation newer × (newer.epoch ≡ other s.epoch))

  abbrev pub Good : ℕ → ℕ → Follow → Type 0
  Good epoch generation k = (k.params ≡ p) × ((k.formatted ≡ true) × Stood epoch generation k.stands k.newer)

  -- both findings where the end is in doubt, else the one twice
  abbrev pub Behind : ℕ → ℕ → StandingKnown → Option StandingKnown → RunFound → RunFound → Type 0
  Behind epoch generation s None y z = Exactly epoch generation (rest_of s) y × (z ≡ y)
  Behind epoch generation s (Some newer) y z = Exactly epoch generation (rest_of s) y × Exactly (suc epoch) generation (rest_of newer) z

  abbrev pub Shown : Type 1
  Shown = List Note → RunFound → RunFound → Type 0

  abbrev pub Result : ℕ → Follow → Shown → List Note → Type 0
  Result epoch k P ms = (generation : ℕ) × (Good epoch generation k × ((y z : RunFound) → Behind epoch generation k.stands k.newer y z → P ms y z))

  abbrev pub Takes : ℕ → Follow → List Note → Follow → ℕ → Type 0
  Takes epoch known [] last then = (last ≡ known) × (then ≡ epoch)
  Takes epoch known (note ∷ notes) last then =
      (next : Follow) × (TakesLine known (L.Note note) next × (IsOfFills p f epoch known.stands known.holes known.wants note × Takes (epoch_behind known epoch) next notes last then))

  -- of all that is taken from a state on, fewer notes than so many
  abbrev pub Conv : ℕ → ℕ → Follow → Shown → Type 0
  Conv most epoch g P = (ms : List Note) (k : Follow) (then : ℕ) → length ms < most → Takes epoch g ms k then → Result then k P ms

  pub conv_weak : (most epoch : ℕ) (g : Follow) (P : Shown) → Conv (suc most) epoch g P → Conv most epoch g P
  conv_weak most epoch g P conv ms k then few = conv ms k then (omega (arith, few))

  abbrev pub Alone : ℕ → Follow → Note → Follow → Type 0
  Alone epoch g note next = (given : Note) (k : Follow) → TakesLine g (L.Note given) k → IsOfFills p f epoch g.stands g.holes g.wants given → (given ≡ note) × (k ≡ next)

  -- one note, and then the rest
  pub conv_strict : (most epoch : ℕ) (g next : Follow) (note : Note) (P : Shown) → Alone epoch g note next → Result epoch g P [] → Conv most (epoch_behind g epoch) next (λ ms y z. P (note ∷ ms) y z) → Conv (suc most) epoch g P
  conv_strict most epoch g next note P alone stop more = go
    where
      go : (ms : List Note) (k : Follow) (then : ℕ) → length ms < suc most → Takes epoch g ms k then → Result then k P ms
      go [] k then few (same, index) = subst₂ (λ (n : ℕ) (h : Follow). Result n h P []) (sym index) (sym same) stop
      go (x ∷ ms) k then few (mid, (takes, (filled, rest))) =
          (let is = alone x mid takes filled in
          subst (λ (w : Note). Result then k P (w ∷ ms)) (sym is.0) (more ms k then (omega (arith, few)) (subst (λ (h : Follow). Takes (epoch_behind g epoch) h ms k then) is.1 rest)))

  pub conv_note : (most epoch : ℕ) (g next : Follow) (note : Note) (P : Shown) → Alone epoch g note next → Result epoch g P [] → Conv most (epoch_behind g epoch) next (λ ms y z. P (note ∷ ms) y z) → Conv most epoch g P
  conv_note most epoch g next note P alone stop more = conv_weak most epoch g P (conv_strict most epoch g next note P alone stop more)

  -- what is said by other lists, or is weaker
  pub conv_along : (most epoch : ℕ) (g : Follow) (P : Shown) (u v : List Note → List Note) → ((ms : List Note) → u ms ≡ v ms) → Conv most epoch g (λ ms y z. P (u ms) y z) → Conv most epoch g (λ ms y z. P (v ms) y z)
  conv_along most epoch g P u v same conv ms k then few takes =
      subst (λ (ns : List Note). (generation : ℕ) × (Good then generation k × ((y z : RunFound) → Behind then generation k.stands k.newer y z → P ns y z))) (same ms) (conv ms k then few takes)

  pub conv_map : (most epoch : ℕ) (g : Follow) (P Q : Shown) → ((ms : List Note) (y z : RunFound) → P ms y z → Q ms y z) → Conv most epoch g P → Conv most epoch g Q
  conv_map most epoch g P Q weaker conv ms k then few takes = (let result = conv ms k then few takes in (result.0, (result.1.0, λ y z behind. weaker ms y z (result.1.1 y z behind))))

  -- one of two notes, and then what follows on it
  abbrev pub OneOf : ℕ → Follow → Note → Follow → Note → Follow → Type 0
  OneOf epoch g x one y two = (given : Note) (k : Follow) → TakesLine g (L.Note given) k → IsOfFills p f epoch g.stands g.holes g.wants given → ((given ≡ x) × (k ≡ one)) ⊎ ((given ≡ y) × (k ≡ two))

  pub conv_either_strict : (most epoch : ℕ) (g one two : Follow) (x y : Note) (P : Shown) → OneOf epoch g x one y two → Result epoch g P []
      → Conv most (epoch_behind g epoch) one (λ ms v w. P (x ∷ ms) v w) → Conv most (epoch_behind g epoch) two (λ ms v w. P (y ∷ ms) v w) → Conv (suc most) epoch g P
  conv_either_strict most epoch g one two x y P either stop more_x more_y = go
    where
      by : (given : Note) (ms : List Note) (mid k : Follow) (then : ℕ) → length ms < most → Takes (epoch_behind g epoch) mid ms k then → (((given ≡ x) × (mid ≡ one)) ⊎ ((given ≡ y) × (mid ≡ two))) → Result then k P (given ∷ ms)
      by given ms mid k then few rest (inl is) = subst (λ (w : Note). Result then k P (w ∷ ms)) (sym is.0) (more_x ms k then few (subst (λ (h : Follow). Takes (epoch_behind g epoch) h ms k then) is.1 rest))
      by given ms mid k then few rest (inr is) = subst (λ (w : Note). Result then k P (w ∷ ms)) (sym is.0) (more_y ms k then few (subst (λ (h : Follow). Takes (epoch_behind g epoch) h ms k then) is.1 rest))

      go : (ms : List Note) (k : Follow) (then : ℕ) → length ms < suc most → Takes epoch g ms k then → Result then k P ms
      go [] k then few (same, index) = subst₂ (λ (n : ℕ) (h : Follow). Result n h P []) (sym index) (sym same) stop
      go (given ∷ ms) k then few (mid, (takes, (filled, rest))) = by given ms mid k then (omega (arith, few)) rest (either given mid takes filled)

  pub conv_either : (most epoch : ℕ) (g one two : Follow) (x y : Note) (P : Shown) → OneOf epoch g x one y two → Result epoch g P []
      → Conv most (epoch_behind g epoch) one (λ ms v w. P (x ∷ ms) v w) → Conv most (epoch_behind g epoch) two (λ ms v w. P (y ∷ ms) v w) → Conv most epoch g P
  conv_either most epoch g one two x y P either stop more_x more_y = conv_weak most epoch g P (conv_either_strict most epoch g one two x y P either stop more_x more_y)

  -- notes that change nothing
  pub conv_kept : (most epoch : ℕ) (g : Follow) (ns : List Note) (ws : List Want) (P : Shown) → Fronts ns (Result epoch g P)
      → Conv most epoch (taken_up (record g { holes = []; wants = ws })) (λ ms y z. P (ns ++ ms) y z) → Conv most epoch (taken_up (record g { holes = []; wants = kept ns ++ ws })) P
  conv_kept most epoch g [] ws P stops more = more
  conv_kept most epoch g (n ∷ ns) ws P stops more =
      conv_note most epoch (record g { holes = []; wants = kept (n ∷ ns) ++ ws }) (taken_up (record g { holes = []; wants = kept ns ++ ws })) n P (λ given k takes filled. takes) (stops [] (n ∷ ns) refl (omega arith))
      (conv_kept most epoch g ns ws (λ ms y z. P (n ∷ ms) y z) (λ ms rest is some. stops (n ∷ ms) rest (ap (λ (xs : List Note). n ∷ xs) is) some) more)

  -- ---- in a run, while the rest stays

  abbrev pub StaysAs : ℕ → Rest → StandingKnown → Type 0
  StaysAs epoch rest s = Holds p f s epoch × (rest_of s ≡ rest)

  -- what may be found at a stop
  abbrev pub Told : ℕ → ℕ → Rest → Shown → List Note → Type 0
  Told epoch generation rest P ms = (y : RunFound) → Exactly epoch generation rest y → P ms y y

  pub told_result : (epoch generation : ℕ) (rest : Rest) (s : StandingKnown) (c : ℕ) (ls : List ℕ) (hs : List Hole) (ws : List Want) (P : Shown) (ms : List Note) → StaysAs epoch rest s → IsSure p generation rest
      → Told epoch generation rest P ms → Result epoch (at p s c ls hs ws) P ms
  told_result epoch generation rest s c ls hs ws P ms stays sure told = (
    generation,
    (
      (refl, (refl, (stays.0, subst (λ (r : Rest). IsSure p generation r) (sym stays.1) sure))),
      λ y z behind. subst (λ (w : RunFound). P ms y w) (sym behind.1) (told y (subst (λ (r : Rest). Exactly epoch generation r y) stays.1 behind.0)),
    ),
  )

module _ (p : Params) (f : AllFills) (all : AreAllFills p f) (epoch generation : ℕ) (rest : Rest) (sure : IsSure p generation rest) where
  slot_alone : (s : StandingKnown) (c : ℕ) (ls : List ℕ) (h : Hole) (hs : List Hole) (ws : List Want) → StaysAs p f epoch rest s
      → Alone p f epoch (at p s c ls (h ∷ hs) ws) (Read (slot_cell p ((public_at p f epoch).homes h.bucket) h.bucket (filled_slot p f epoch h))) (taken_up (at p (with_slot s h (filled_slot p f epoch h)) c ls hs ws))
  slot_alone s c ls h hs ws stays given k (slot, takes) filled =
      let home : ℕ = side_number (s.homes h.bucket) in
      let same : slot ≡ filled_slot p f epoch h = slots_apart p home h.bucket slot (filled_slot p f epoch h) (same_read _ _ given takes.0.is filled) in (
        filled ∙ ap (λ (home : ℕ). Read (slot_cell p home h.bucket (filled_slot p f epoch h))) (stays.0.homes h.bucket),
        takes.1 ∙ ap (λ (x : ℕ). taken_up (at p (with_slot s h x) c ls hs ws)) same,
      )

  pub conv_holes : (most : ℕ) (s : StandingKnown) (c : ℕ) (ls : List ℕ) (hs : List Hole) (ws : List Want) (P : Shown p f) → StaysAs p f epoch rest s → AreHoles p f epoch hs
      → Fronts (hole_reads p (public_at p f epoch) (fills_at p f epoch) hs) (Told p f epoch generation rest P)
      → ((t : StandingKnown) → StaysAs p f epoch rest t → Conv p f most epoch (taken_up (at p t c ls [] ws)) (λ ms y z. P (hole_reads p (public_at p f epoch) (fills_at p f epoch) hs ++ ms) y z))
      → Conv p f most epoch (taken_up (at p s c ls hs ws)) P
  conv_holes most s c ls [] ws P stays are stops more = more s stays
  conv_holes most s c ls (h ∷ hs) ws P stays are stops more =
      let slot : ℕ = filled_slot p f epoch h in
      let s1 : StandingKnown = with_slot s h slot in
      let note : Note = Read (slot_cell p ((public_at p f epoch).homes h.bucket) h.bucket slot) in
      let reads : List Note = hole_reads p (public_at p f epoch) (fills_at p f epoch) hs in
      let stays1 : StaysAs p f epoch rest s1 = (slot_holds p f s epoch h stays.0 are.0, slot_rest s h slot ∙ stays.1) in
      conv_note p f most epoch (at p s c ls (h ∷ hs) ws) (taken_up (at p s1 c ls hs ws)) note P (slot_alone s c ls h hs ws stays)
      (told_result p f epoch generation rest s c ls (h ∷ hs) ws P [] stays sure (stops [] (note ∷ reads) refl (omega arith)))
      (conv_holes most s1 c ls hs ws (λ ms y z. P (note ∷ ms) y z) stays1 are.1 (λ ms rest is some. stops (note ∷ ms) rest (ap (λ (xs : List Note). note ∷ xs) is) some) more)

  abbrev pub leaf_of : ℕ → ℕ → ℕ
  leaf_of b i = slice_index (batch_leaves p (fills_at p f epoch) b) i

  abbrev pub behind_label : StandingKnown → ℕ → ℕ → ℕ → List ℕ → List Want → Follow
  behind_label s c b i ls ws = taken_up (at p (with_label s b i (leaf_of b i)) c (ls ++ leaf_of b i ∷ []) (place_holes p (counts_now p (public_known p s ls)) (leaf_of b i)) ws)

  -- what a place shows
  abbrev pub notes_at : ℕ → ℕ → List Note
  notes_at b i = place_notes p f all epoch rest b i

  abbrev pub holes_at : ℕ → ℕ → List Note
  holes_at b i = hole_reads p (public_at p f epoch) (fills_at p f epoch) (place_holes p (count_before p f epoch b i) (leaf_of b i))

  -- a place, behind its label
  pub conv_reads : (most : ℕ) (s : StandingKnown) (c b i : ℕ) (ls : List ℕ) (ws : List Want) (P : Shown p f) → StaysAs p f epoch rest s → b < p.batches → i < p.places
      → ls ≡ leaves_of_batches p f (suc epoch) b ++ take i (batch_leaves p (fills_at p f epoch) b) → Fronts (holes_at b i) (Told p f epoch generation rest P)
      → ((t : StandingKnown) → StaysAs p f epoch rest t → Conv p f most epoch (taken_up (at p t c (ls ++ leaf_of b i ∷ []) [] ws)) (λ ms y z. P (holes_at b i ++ ms) y z))
      → Conv p f most epoch (behind_label s c b i ls ws) P
  conv_reads most s c b i ls ws P stays few low is stops more =
      let leaf : ℕ = leaf_of b i in
      let s1 : StandingKnown = with_label s b i leaf in
      let stays1 : StaysAs p f epoch rest s1 = (label_holds p f s epoch b i leaf stays.0 (leaf_at p f all epoch rest b i low), label_rest s b i leaf ∙ stays.1) in
      let hs : List Hole = place_holes p (count_before p f epoch b i) leaf in
      let same : place_holes p (counts_now p (public_known p s ls)) leaf ≡ hs = ap (λ (count : ℕ → ℕ). place_holes p count leaf) (same_before p f all epoch rest s b i ls stays.0 is) in
      subst (λ (xs : List Hole). Conv p f most epoch (taken_up (at p s1 c (ls ++ leaf ∷ []) xs ws)) P) (sym same)
      (conv_holes most s1 c (ls ++ leaf ∷ []) hs ws P stays1 (place_are p f epoch b i few low) stops more)

  place_alone : (s : StandingKnown) (c b i : ℕ) (ls : List ℕ) (ws : List Want) → i < p.places → Alone p f epoch (at p s c ls [] (Place b i ∷ ws)) (Label (leaf_of b i)) (behind_label s c b i ls ws)
  place_alone s c b i ls ws low given k (leaf, takes) filled =
      let is_leaf : leaf_of b i ≡ f.leaf (suc epoch) b i = leaf_at p f all epoch rest b i low in
      let same : leaf ≡ leaf_of b i = same_label leaf (f.leaf (suc epoch) b i) given takes.0.is filled ∙ sym is_leaf in (
        filled ∙ ap (λ (x : ℕ). Label x) (sym is_leaf),
        takes.1 ∙ ap (λ (x : ℕ). taken_up (at p (with_label s b i x) c (ls ++ x ∷ []) (place_holes p (counts_now p (public_known p s ls)) x) ws)) same,
      )

  -- a place that is wanted, and then the rest
  pub conv_place : (most : ℕ) (s : StandingKnown) (c b i : ℕ) (ls : List ℕ) (ws : List Want) (P : Shown p f) → StaysAs p f epoch rest s → b < p.batches → i < p.places
      → ls ≡ leaves_of_batches p f (suc epoch) b ++ take i (batch_leaves p (fills_at p f epoch) b) → Fronts (notes_at b i) (Told p f epoch generation rest P)
      → ((t : StandingKnown) → StaysAs p f epoch rest t → Conv p f most epoch (taken_up (at p t c (ls ++ leaf_of b i ∷ []) [] ws)) (λ ms y z. P (notes_at b i ++ ms) y z))
      → Conv p f (suc most) epoch (at p s c ls [] (Place b i ∷ ws)) P
  conv_place most s c b i ls ws P stays few low is stops more =
      conv_strict p f most epoch (at p s c ls [] (Place b i ∷ ws)) (behind_label s c b i ls ws) (Label (leaf_of b i)) P (place_alone s c b i ls ws low)
      (told_result p f epoch generation rest s c ls [] (Place b i ∷ ws) P [] stays sure (stops [] (notes_at b i) refl (omega arith)))
      (conv_reads most s c b i ls ws (λ ms y z. P (Label (leaf_of b i) ∷ ms) y z) stays few low is
      (λ ms rest is some. stops (Label (leaf_of b i) ∷ ms) rest (ap (λ (xs : List Note). Label (leaf_of b i) ∷ xs) is) some) more)

  -- the places from one on
  pub conv_places : (n most : ℕ) (s : StandingKnown) (c b i : ℕ) (ls : List ℕ) (P : Shown p f) → StaysAs p f epoch rest s → b < p.batches → i + n ≡ p.places
      → ls ≡ leaves_of_batches p f (suc epoch) b ++ take i (batch_leaves p (fills_at p f epoch) b) → Fronts (flat_map (notes_at b) (range_with_len i n)) (Told p f epoch generation rest P)
      → ((t : StandingKnown) → StaysAs p f epoch rest t → Conv p f most epoch (taken_up (at p t c (leaves_of_batches p f (suc epoch) (suc b)) [] [])) (λ ms y z. P (flat_map (notes_at b) (range_with_len i n) ++ ms) y z))
      → Conv p f most epoch (taken_up (at p s c ls [] (map (λ j. Place b j) (range_with_len i n)))) P
  conv_places zero most s c b i ls P stays few whole is stops more =
      let done : ls ≡ leaves_of_batches p f (suc epoch) (suc b) = all_shown p f all epoch rest b i ls (omega (arith, whole)) is in
      subst (λ (xs : List ℕ). Conv p f most epoch (taken_up (at p s c xs [] [])) P) (sym done) (more s stays)
  conv_places (suc n) most s c b i ls P stays few whole is stops more =
      let low : i < p.places = omega (arith, whole) in
      let xs : List Note = notes_at b i in
      let ys : List Note = flat_map (notes_at b) (range_with_len (i + 1) n) in
      let ws : List Want = map (λ j. Place b j) (range_with_len (i + 1) n) in
      conv_weak p f most epoch (at p s c ls [] (Place b i ∷ ws)) P
      (conv_place most s c b i ls ws P stays few low is (front_left (Told p f epoch generation rest P) xs ys stops)
      (λ t stays1. conv_places n most t c b (i + 1) (ls ++ leaf_of b i ∷ []) (λ ms y z. P (xs ++ ms) y z) stays1 few (omega (arith, whole)) (one_more p f all epoch rest b i ls low is)
      (front_right (Told p f epoch generation rest P) xs ys stops)
      (λ t2 stays2. conv_along p f most epoch (taken_up (at p t2 c (leaves_of_batches p f (suc epoch) (suc b)) [] [])) P (λ ms. (xs ++ ys) ++ ms) (λ ms. xs ++ (ys ++ ms)) (λ ms. append_assoc xs ys ms) (more t2 stays2))))
