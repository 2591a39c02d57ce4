-- A register's setting is taken: by its first note it is told whether its gate was open.
use Rattle.std.specs.Prelude.{◌≡◌, ◌⊎◌, ℕ, ◌%◌, Bool, true, false, List, [], ◌∷◌, ◌++◌, length, Some}
use Rattle.std.proofs.Common.{zero, suc, refl, sym, ap, ◌∙◌, subst, inl, inr, arith}
use Rattle.ob_base.specs.declared.params.Params.{Params}
use Rattle.ob_base.specs.Layout.{GenerationTwin, EpochTwin}
use Rattle.ob_store.specs.declared.watch.Note.{Note}
use Rattle.ob_store.specs.declared.watch.Note.TheVariants.{Write, Sync}
use Rattle.ob_schedule.specs.Schedule.{set_twin, gate_cell, body_cell}
use Rattle.ob_schedule.specs.declared.line.Line.TheVariants as L
use Rattle.ob_schedule.specs.declared.want.Side.{Side}
use Rattle.ob_schedule.specs.declared.want.Gate.{Gate}
use Rattle.ob_schedule.specs.declared.want.Gate.TheVariants.{Open, Closed, Unsure}
use Rattle.ob_schedule.specs.declared.want.Register.TheVariants.{Generation, Epoch}
use Rattle.ob_schedule.specs.declared.want.Change.TheVariants.{Keeps, Settles, Doubts, Closes, SetsGeneration, EndsEpoch}
use Rattle.ob_schedule.specs.declared.want.Want.{Want}
use Rattle.ob_schedule.specs.declared.want.Want.TheVariants.{Fixed, Setting}
use Rattle.ob_schedule.specs.Sides.{other, side_number}
use Rattle.ob_schedule.specs.Standing.{StandingKnown, standing_ended}
use Rattle.ob_schedule.specs.Wants.{sets}
use Rattle.ob_schedule.specs.Follow.{Follow, TakesLine, taken_up}
use Rattle.ob_histories.specs.Fills.{AllFills, AreAllFills, leaves_of_batches}
use Rattle.ob_histories.specs.Runs.{RunFound}
use Rattle.ob_histories.specs.Histories.{IsGateLeft}
use Rattle.ob_histories.specs.Filled.{IsOfFills}
use Rattle.ob_histories.proofs.Ended.{other_side, ended_holds}
use Rattle.ob_histories.proofs.Places.{at, rest_of}
use Rattle.ob_histories.proofs.Finding.{GateMay, RecordsMay, holds_rest}
use Rattle.ob_histories.proofs.Sets.{gate_of_side, body_of_side}
use Rattle.ob_histories.proofs.Fronts.{Exactly, Sure, Shown, Result, Conv, conv_note, conv_strict, conv_either}

-- a front of a setting, by how much it lacks
abbrev pub Lacks : List Note → (List Note → ℕ → Type 0) → Type 0
Lacks notes Q = (ms rest : List Note) → ms ++ rest ≡ notes → Q ms (length rest)

pub lacks_more : (note : Note) (notes : List Note) (Q : List Note → ℕ → Type 0) → Lacks (note ∷ notes) Q → Lacks notes (λ ms n. Q (note ∷ ms) n)
lacks_more note notes Q stops ms rest is = stops (note ∷ ms) rest (ap (λ (xs : List Note). note ∷ xs) is)

-- ---- the generation

module _ (p : Params) (f : AllFills) (epoch generation : ℕ) (s : StandingKnown) (sure : Sure p f epoch generation s) (batch : ℕ) (leaves : List ℕ) where
  abbrev next : Side
  next = other s.generation

  abbrev gate : Note
  gate = Write (gate_cell p GenerationTwin (suc generation))

  abbrev body : Note
  body = Write (body_cell p GenerationTwin (suc generation))

  abbrev gate_known : Note
  gate_known = Write (gate_cell p GenerationTwin (side_number next))

  abbrev body_known : Note
  body_known = Write (body_cell p GenerationTwin (side_number next))

  turned : side_number next ≡ suc generation % 2
  turned = other_side s.generation generation sure.1.side

  same_gate : gate_known ≡ gate
  same_gate = ap (λ (c : ℕ). Write c) (sym (gate_of_side p GenerationTwin next (suc generation) turned))

  same_body : body_known ≡ body
  same_body = ap (λ (c : ℕ). Write c) (sym (body_of_side p GenerationTwin next (suc generation) turned))

  abbrev wants_1 : List Want
  wants_1 = Fixed Sync SetsGeneration ∷ []

  abbrev wants_2 : List Want
  wants_2 = Fixed gate_known Keeps ∷ wants_1

  abbrev wants_3 : List Want
  wants_3 = Fixed Sync Keeps ∷ wants_2

  abbrev wants_4 : List Want
  wants_4 = Fixed body_known Keeps ∷ wants_3

  abbrev wants_5 : List Want
  wants_5 = Fixed Sync (Closes Generation) ∷ wants_4

  abbrev wants_6 : List Want
  wants_6 = Fixed gate_known (Doubts Generation) ∷ wants_5

  -- as what stands says, but for the gate
  pub record ButGate (y : RunFound) : Type 0 where
    pub at_epoch : y.epoch ≡ epoch
    pub of_generation : y.generation ≡ generation
    pub epoch_gate : GateMay s.epoch_gate y.epoch_gate
    pub records : RecordsMay s.logged s.maybe y.records

  -- where the gate was as this says, a stop that lacks so much
  abbrev pub Left : Bool → Shown p f → List Note → ℕ → Type 0
  Left was P ms zero = Unit {0}
  Left was P ms (suc lacking) = (y : RunFound) → ButGate y → IsGateLeft was (suc lacking) y.generation_gate → P ms y y

  abbrev known : Gate → List Want → Follow
  known g wants = at p (record s { generation_gate = g }) batch leaves [] wants

  abbrev pub behind_set : Follow
  behind_set = taken_up (at p (record s { generation = next; generation_gate = Open }) batch leaves [] [])

  stop : (g : Gate) (ws : List Want) (P : Shown p f) → ((y : RunFound) → ButGate y → GateMay g y.generation_gate → P [] y y) → Result p f epoch (known g ws) P []
  stop g ws P told = (
    generation,
    (
      (refl, (refl, (holds_rest p f s epoch s.generation g s.epoch_gate s.logged s.maybe sure.0, record { side = sure.1.side; few = sure.1.few; more = sure.1.more }))),
      λ y z behind. subst (λ (w : RunFound). P [] y w) (sym behind.1)
          (told y (record { at_epoch = behind.0.at_epoch; of_generation = behind.0.of_generation; epoch_gate = behind.0.epoch_gate; records = behind.0.records }) behind.0.generation_gate),
    ),
  )

  abbrev last_1 : List Note
  last_1 = Sync ∷ []

  abbrev last_2 : List Note
  last_2 = gate ∷ last_1

  abbrev last_3 : List Note
  last_3 = Sync ∷ last_2

  abbrev last_4 : List Note
  last_4 = body ∷ last_3

  abbrev last_5 : List Note
  last_5 = Sync ∷ last_4

  abbrev last_6 : List Note
  last_6 = gate ∷ last_5

  conv_1 : (most : ℕ) (was : Bool) (P : Shown p f) → Lacks last_1 (Left was P) → Conv p f most epoch behind_set (λ ms y z. P (last_1 ++ ms) y z) → Conv p f most epoch (known Closed wants_1) P
  conv_1 most was P stops more = conv_note p f most epoch (known Closed wants_1) behind_set Sync P (λ given k takes filled. takes) (stop Closed wants_1 P (stops [] last_1 refl)) more

  conv_2 : (most : ℕ) (was : Bool) (P : Shown p f) → Lacks last_2 (Left was P) → Conv p f most epoch behind_set (λ ms y z. P (last_2 ++ ms) y z) → Conv p f most epoch (known Closed wants_2) P
  conv_2 most was P stops more = conv_note p f most epoch (known Closed wants_2) (known Closed wants_1) gate P (λ given k takes filled. (takes.0 ∙ same_gate, takes.1)) (stop Closed wants_2 P (stops [] last_2 refl))
      (conv_1 most was (λ ms y z. P (gate ∷ ms) y z) (lacks_more gate last_1 (Left was P) stops) more)

  conv_3 : (most : ℕ) (was : Bool) (P : Shown p f) → Lacks last_3 (Left was P) → Conv p f most epoch behind_set (λ ms y z. P (last_3 ++ ms) y z) → Conv p f most epoch (known Closed wants_3) P
  conv_3 most was P stops more = conv_note p f most epoch (known Closed wants_3) (known Closed wants_2) Sync P (λ given k takes filled. takes) (stop Closed wants_3 P (stops [] last_3 refl))
      (conv_2 most was (λ ms y z. P (Sync ∷ ms) y z) (lacks_more Sync last_2 (Left was P) stops) more)

  conv_4 : (most : ℕ) (was : Bool) (P : Shown p f) → Lacks last_4 (Left was P) → Conv p f most epoch behind_set (λ ms y z. P (last_4 ++ ms) y z) → Conv p f most epoch (known Closed wants_4) P
  conv_4 most was P stops more = conv_note p f most epoch (known Closed wants_4) (known Closed wants_3) body P (λ given k takes filled. (takes.0 ∙ same_body, takes.1)) (stop Closed wants_4 P (stops [] last_4 refl))
      (conv_3 most was (λ ms y z. P (body ∷ ms) y z) (lacks_more body last_3 (Left was P) stops) more)

  conv_5 : (most : ℕ) (P : Shown p f) → Lacks last_5 (Left true P) → Conv p f most epoch behind_set (λ ms y z. P (last_5 ++ ms) y z) → Conv p f most epoch (known Unsure wants_5) P
  conv_5 most P stops more = conv_note p f most epoch (known Unsure wants_5) (known Closed wants_4) Sync P (λ given k takes filled. takes)
      (stop Unsure wants_5 P (λ y but may. stops [] last_5 refl y but (λ is. refl)))
      (conv_4 most true (λ ms y z. P (Sync ∷ ms) y z) (lacks_more Sync last_4 (Left true P) stops) more)

  conv_6 : (most : ℕ) (P : Shown p f) → Lacks last_6 (Left true P) → Conv p f most epoch behind_set (λ ms y z. P (last_6 ++ ms) y z) → Conv p f most epoch (known Open wants_6) P
  conv_6 most P stops more = conv_note p f most epoch (known Open wants_6) (known Unsure wants_5) gate P (λ given k takes filled. (takes.0 ∙ same_gate, takes.1)) (stop Open wants_6 P (stops [] last_6 refl))
      (conv_5 most (λ ms y z. P (gate ∷ ms) y z) (lacks_more gate last_5 (Left true P) stops) more)

  -- for each state of the gate that may be
  abbrev pub AnyLeft : Gate → Shown p f → Type 0
  AnyLeft g P = (was : Bool) → GateMay g was → Lacks (set_twin p GenerationTwin (suc generation) was) (Left was P)

  abbrev pub AnyMore : ℕ → Gate → Shown p f → Type 0
  AnyMore most g P = (was : Bool) → GateMay g was → Conv p f most epoch behind_set (λ ms y z. P (set_twin p GenerationTwin (suc generation) was ++ ms) y z)

  conv_unsure : (most : ℕ) (P : Shown p f) → AnyLeft Unsure P → AnyMore most Unsure P → Conv p f most epoch (known Unsure (Setting Generation ∷ [])) P
  conv_unsure most P stops more =
      conv_either p f most epoch (known Unsure (Setting Generation ∷ [])) (known Unsure wants_5) (known Closed wants_3) gate body P either
      (stop Unsure (Setting Generation ∷ []) P (λ y but may. first y but y.generation_gate refl))
      (conv_5 most (λ ms y z. P (gate ∷ ms) y z) (lacks_more gate last_5 (Left true P) (stops true tt)) (more true tt))
      (conv_3 most false (λ ms y z. P (body ∷ ms) y z) (lacks_more body last_3 (Left false P) (stops false tt)) (more false tt))
    where
      either : (given : Note) (k : Follow) → TakesLine (known Unsure (Setting Generation ∷ [])) (L.Note given) k → IsOfFills p f epoch (record s { generation_gate = Unsure }) [] (Setting Generation ∷ []) given
          → ((given ≡ gate) × (k ≡ known Unsure wants_5)) ⊎ ((given ≡ body) × (k ≡ known Closed wants_3))
      either given k (inl is) filled = inl (is.is ∙ same_gate, is.then)
      either given k (inr is) filled = inr (is.is ∙ same_body, is.then)

      first : (y : RunFound) → ButGate y → (was : Bool) → y.generation_gate ≡ was → P [] y y
      first y but true is = stops true tt [] last_6 refl y but is
      first y but false is = stops false tt [] last_4 refl y but is

  conv_by : (most : ℕ) (g : Gate) (P : Shown p f) → AnyLeft g P → AnyMore most g P → Conv p f most epoch (taken_up (known g (sets p Generation next g))) P
  conv_by most Open P stops more = conv_6 most P (stops true refl) (more true refl)
  conv_by most Closed P stops more = conv_4 most false P (stops false refl) (more false refl)
  conv_by most Unsure P stops more = conv_unsure most P stops more

  pub conv_generation : (most : ℕ) (P : Shown p f) → AnyLeft s.generation_gate P → AnyMore most s.generation_gate P
      → Conv p f most epoch (taken_up (at p s batch leaves [] (sets p Generation next s.generation_gate))) P
  conv_generation most P stops more = conv_by most s.generation_gate P stops more

-- ---- the epoch

module _ (p : Params) (f : AllFills) (all : AreAllFills p f) (epoch generation number : ℕ) (s : StandingKnown) (sure : Sure p f epoch generation s) (logged : s.logged ≡ p.batches) (none : s.maybe ≡ false) (batch : ℕ)
    (leaves : List ℕ) (shown : leaves ≡ leaves_of_batches p f (suc epoch) p.batches) (is_next : number % 2 ≡ suc epoch % 2) where
  abbrev next_side : Side
  next_side = other s.epoch

  abbrev gate_then : Note
  gate_then = Write (gate_cell p EpochTwin number)

  abbrev body_then : Note
  body_then = Write (body_cell p EpochTwin number)

  abbrev gate_there : Note
  gate_there = Write (gate_cell p EpochTwin (side_number next_side))

  abbrev body_there : Note
  body_there = Write (body_cell p EpochTwin (side_number next_side))

  turned_then : side_number next_side ≡ number % 2
  turned_then = other_side s.epoch epoch sure.0.side ∙ sym is_next

  same_gate_then : gate_there ≡ gate_then
  same_gate_then = ap (λ (c : ℕ). Write c) (sym (gate_of_side p EpochTwin next_side number turned_then))

  same_body_then : body_there ≡ body_then
  same_body_then = ap (λ (c : ℕ). Write c) (sym (body_of_side p EpochTwin next_side number turned_then))

  abbrev then_1 : List Want
  then_1 = Fixed Sync Settles ∷ []

  abbrev then_2 : List Want
  then_2 = Fixed gate_there EndsEpoch ∷ then_1

  abbrev then_3 : List Want
  then_3 = Fixed Sync Keeps ∷ then_2

  abbrev then_4 : List Want
  then_4 = Fixed body_there Keeps ∷ then_3

  abbrev then_5 : List Want
  then_5 = Fixed Sync (Closes Epoch) ∷ then_4

  abbrev then_6 : List Want
  then_6 = Fixed gate_there (Doubts Epoch) ∷ then_5

  -- as what stands says, but for the gate
  pub record ButEpochGate (y : RunFound) : Type 0 where
    pub at_epoch : y.epoch ≡ epoch
    pub of_generation : y.generation ≡ generation
    pub generation_gate : GateMay s.generation_gate y.generation_gate
    pub records : y.records ≡ p.batches

  -- the epoch has ended
  pub record IsBehindEnd (z : RunFound) : Type 0 where
    pub at_epoch : z.epoch ≡ suc epoch
    pub of_generation : z.generation ≡ generation
    pub generation_gate : GateMay s.generation_gate z.generation_gate
    pub epoch_gate : z.epoch_gate ≡ true
    pub records : z.records ≡ 0

  abbrev pub EndLeft : Bool → Shown p f → List Note → ℕ → Type 0
  EndLeft was P ms zero = Unit {0}
  EndLeft was P ms (suc zero) = (y z : RunFound) → ButEpochGate y → y.epoch_gate ≡ false → IsBehindEnd z → P ms y z
  EndLeft was P ms (suc (suc lacking)) = (y : RunFound) → ButEpochGate y → IsGateLeft was (suc (suc lacking)) y.epoch_gate → P ms y y

  abbrev known_then : Gate → List Want → Follow
  known_then g wants = at p (record s { epoch_gate = g }) batch leaves [] wants

  abbrev pub ended : StandingKnown
  ended = standing_ended p (record s { epoch_gate = Closed }) leaves

  abbrev pub behind_end : Follow
  behind_end = taken_up (at p ended 0 [] [] [])

  abbrev in_doubt : Follow
  in_doubt = record { params = p; formatted = true; runs = true; stands = record s { epoch_gate = Closed }; newer = Some ended; chosen = true; batch = batch; leaves = leaves; holes = []; wants = then_1 }

  all_there : (records : ℕ) → RecordsMay s.logged s.maybe records → records ≡ p.batches
  all_there records (inl same) = same ∙ logged
  all_there records (inr one) = absurd (let never : true ≡ false = sym one.0 ∙ none in cc)

  still_sure : (g : Gate) → Sure p f epoch generation (record s { epoch_gate = g })
  still_sure g = (holds_rest p f s epoch s.generation s.generation_gate g s.logged s.maybe sure.0, record { side = sure.1.side; few = sure.1.few; more = sure.1.more })

  but_gate : (g : Gate) (y : RunFound) → Exactly epoch generation (rest_of (record s { epoch_gate = g })) y → ButEpochGate y
  but_gate g y is = record { at_epoch = is.at_epoch; of_generation = is.of_generation; generation_gate = is.generation_gate; records = all_there y.records is.records }

  stop_then : (g : Gate) (ws : List Want) (P : Shown p f) → ((y : RunFound) → ButEpochGate y → GateMay g y.epoch_gate → P [] y y) → Result p f epoch (known_then g ws) P []
  stop_then g ws P told = (
    generation,
    ((refl, (refl, still_sure g)), λ y z behind. subst (λ (w : RunFound). P [] y w) (sym behind.1) (told y (but_gate g y behind.0) behind.0.epoch_gate)),
  )

  pub ended_sure : Sure p f (suc epoch) generation ended
  ended_sure = (
    ended_holds p f (record s { epoch_gate = Closed }) epoch all (still_sure Closed).0 leaves shown,
    record { side = sure.1.side; few = omega arith; more = λ is. absurd (let never : false ≡ true = is in cc) },
  )

  none_yet : (records : ℕ) → RecordsMay 0 false records → records ≡ 0
  none_yet records (inl same) = same
  none_yet records (inr one) = absurd (let never : false ≡ true = one.0 in cc)

  stop_doubt : (P : Shown p f) → ((y z : RunFound) → ButEpochGate y → y.epoch_gate ≡ false → IsBehindEnd z → P [] y z) → Result p f epoch in_doubt P []
  stop_doubt P told = (
    generation,
    (
      (refl, (refl, (still_sure Closed, (ended_sure, refl)))),
      λ y z behind. told y z (but_gate Closed y behind.0) behind.0.epoch_gate (record {
        at_epoch = behind.1.at_epoch;
        of_generation = behind.1.of_generation;
        generation_gate = behind.1.generation_gate;
        epoch_gate = behind.1.epoch_gate;
        records = none_yet z.records behind.1.records;
      }),
    ),
  )

  abbrev end_1 : List Note
  end_1 = Sync ∷ []

  abbrev end_2 : List Note
  end_2 = gate_then ∷ end_1

  abbrev end_3 : List Note
  end_3 = Sync ∷ end_2

  abbrev end_4 : List Note
  end_4 = body_then ∷ end_3

  abbrev end_5 : List Note
  end_5 = Sync ∷ end_4

  abbrev end_6 : List Note
  end_6 = gate_then ∷ end_5

  -- what follows on the last sync may be shorter than all
  ends_1 : (most : ℕ) (was : Bool) (P : Shown p f) → Lacks end_1 (EndLeft was P) → Conv p f most (suc epoch) behind_end (λ ms y z. P (end_1 ++ ms) y z) → Conv p f (suc most) epoch in_doubt P
  ends_1 most was P stops more = conv_strict p f most epoch in_doubt behind_end Sync P (λ given k takes filled. takes) (stop_doubt P (stops [] end_1 refl)) more

  ends_2 : (most : ℕ) (was : Bool) (P : Shown p f) → Lacks end_2 (EndLeft was P) → Conv p f most (suc epoch) behind_end (λ ms y z. P (end_2 ++ ms) y z) → Conv p f (suc most) epoch (known_then Closed then_2) P
  ends_2 most was P stops more = conv_note p f (suc most) epoch (known_then Closed then_2) in_doubt gate_then P (λ given k takes filled. (takes.0 ∙ same_gate_then, takes.1)) (stop_then Closed then_2 P (stops [] end_2 refl))
      (ends_1 most was (λ ms y z. P (gate_then ∷ ms) y z) (lacks_more gate_then end_1 (EndLeft was P) stops) more)

  ends_3 : (most : ℕ) (was : Bool) (P : Shown p f) → Lacks end_3 (EndLeft was P) → Conv p f most (suc epoch) behind_end (λ ms y z. P (end_3 ++ ms) y z) → Conv p f (suc most) epoch (known_then Closed then_3) P
  ends_3 most was P stops more = conv_note p f (suc most) epoch (known_then Closed then_3) (known_then Closed then_2) Sync P (λ given k takes filled. takes) (stop_then Closed then_3 P (stops [] end_3 refl))
      (ends_2 most was (λ ms y z. P (Sync ∷ ms) y z) (lacks_more Sync end_2 (EndLeft was P) stops) more)

  ends_4 : (most : ℕ) (was : Bool) (P : Shown p f) → Lacks end_4 (EndLeft was P) → Conv p f most (suc epoch) behind_end (λ ms y z. P (end_4 ++ ms) y z) → Conv p f (suc most) epoch (known_then Closed then_4) P
  ends_4 most was P stops more = conv_note p f (suc most) epoch (known_then Closed then_4) (known_then Closed then_3) body_then P (λ given k takes filled. (takes.0 ∙ same_body_then, takes.1)) (stop_then Closed then_4 P (stops [] end_4 refl))
      (ends_3 most was (λ ms y z. P (body_then ∷ ms) y z) (lacks_more body_then end_3 (EndLeft was P) stops) more)

  ends_5 : (most : ℕ) (P : Shown p f) → Lacks end_5 (EndLeft true P) → Conv p f most (suc epoch) behind_end (λ ms y z. P (end_5 ++ ms) y z) → Conv p f (suc most) epoch (known_then Unsure then_5) P
  ends_5 most P stops more = conv_note p f (suc most) epoch (known_then Unsure then_5) (known_then Closed then_4) Sync P (λ given k takes filled. takes)
      (stop_then Unsure then_5 P (λ y but may. stops [] end_5 refl y but (λ is. refl)))
      (ends_4 most true (λ ms y z. P (Sync ∷ ms) y z) (lacks_more Sync end_4 (EndLeft true P) stops) more)

  ends_6 : (most : ℕ) (P : Shown p f) → Lacks end_6 (EndLeft true P) → Conv p f most (suc epoch) behind_end (λ ms y z. P (end_6 ++ ms) y z) → Conv p f (suc most) epoch (known_then Open then_6) P
  ends_6 most P stops more = conv_note p f (suc most) epoch (known_then Open then_6) (known_then Unsure then_5) gate_then P (λ given k takes filled. (takes.0 ∙ same_gate_then, takes.1)) (stop_then Open then_6 P (stops [] end_6 refl))
      (ends_5 most (λ ms y z. P (gate_then ∷ ms) y z) (lacks_more gate_then end_5 (EndLeft true P) stops) more)

  abbrev pub AnyEndLeft : Gate → Shown p f → Type 0
  AnyEndLeft g P = (was : Bool) → GateMay g was → Lacks (set_twin p EpochTwin number was) (EndLeft was P)

  abbrev pub AnyEndMore : ℕ → Gate → Shown p f → Type 0
  AnyEndMore most g P = (was : Bool) → GateMay g was → Conv p f most (suc epoch) behind_end (λ ms y z. P (set_twin p EpochTwin number was ++ ms) y z)

  ends_unsure : (most : ℕ) (P : Shown p f) → AnyEndLeft Unsure P → AnyEndMore most Unsure P → Conv p f (suc most) epoch (known_then Unsure (Setting Epoch ∷ [])) P
  ends_unsure most P stops more =
      conv_either p f (suc most) epoch (known_then Unsure (Setting Epoch ∷ [])) (known_then Unsure then_5) (known_then Closed then_3) gate_then body_then P either
      (stop_then Unsure (Setting Epoch ∷ []) P (λ y but may. first y but y.epoch_gate refl))
      (ends_5 most (λ ms y z. P (gate_then ∷ ms) y z) (lacks_more gate_then end_5 (EndLeft true P) (stops true tt)) (more true tt))
      (ends_3 most false (λ ms y z. P (body_then ∷ ms) y z) (lacks_more body_then end_3 (EndLeft false P) (stops false tt)) (more false tt))
    where
      either : (given : Note) (k : Follow) → TakesLine (known_then Unsure (Setting Epoch ∷ [])) (L.Note given) k → IsOfFills p f epoch (record s { epoch_gate = Unsure }) [] (Setting Epoch ∷ []) given
          → ((given ≡ gate_then) × (k ≡ known_then Unsure then_5)) ⊎ ((given ≡ body_then) × (k ≡ known_then Closed then_3))
      either given k (inl is) filled = inl (is.is ∙ same_gate_then, is.then)
      either given k (inr is) filled = inr (is.is ∙ same_body_then, is.then)

      first : (y : RunFound) → ButEpochGate y → (was : Bool) → y.epoch_gate ≡ was → P [] y y
      first y but true is = stops true tt [] end_6 refl y but is
      first y but false is = stops false tt [] end_4 refl y but is

  ends_by : (most : ℕ) (g : Gate) (P : Shown p f) → AnyEndLeft g P → AnyEndMore most g P → Conv p f (suc most) epoch (taken_up (known_then g (sets p Epoch next_side g))) P
  ends_by most Open P stops more = ends_6 most P (stops true refl) (more true refl)
  ends_by most Closed P stops more = ends_4 most false P (stops false refl) (more false refl)
  ends_by most Unsure P stops more = ends_unsure most P stops more

  pub conv_epoch : (most : ℕ) (P : Shown p f) → AnyEndLeft s.epoch_gate P → AnyEndMore most s.epoch_gate P
      → Conv p f (suc most) epoch (taken_up (at p s batch leaves [] (sets p Epoch next_side s.epoch_gate))) P
  conv_epoch most P stops more = ends_by most s.epoch_gate P stops more
