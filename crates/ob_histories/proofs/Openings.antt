-- An opening: what was allowed is found, and stands from its first sync on.
use Rattle.std.specs.Prelude.{◌≡◌, ◌<◌, ◌≤◌, ◌⊎◌, ℕ, ◌+◌, ◌-◌, ◌%◌, Bool, true, false, cond, List, [], ◌∷◌, ◌++◌, map, drop, length, Option, Some, None}
use Rattle.std.specs.List.{range_with_len}
use Rattle.std.specs.Int.{div_ceil}
use Rattle.std.proofs.Common.{zero, suc, refl, sym, ap, ◌∙◌, subst₂, inl, inr, arith, append_assoc, add-one}
use Rattle.std.proofs.lemmas.List.{length-append}
use Rattle.ob_base.specs.declared.params.Params.{Params}
use Rattle.ob_base.specs.Layout.{GenerationTwin, EpochTwin, LogArea, check_cell, checkpoint_cells, checkpoint_len}
use Rattle.ob_store.specs.declared.watch.Note.{Note}
use Rattle.ob_store.specs.declared.watch.Note.TheVariants.{Read, Sync}
use Rattle.ob_schedule.specs.Schedule.{check_cells, first_reads, head_notes, reads_of, region_cells, set_twin}
use Rattle.ob_schedule.specs.declared.line.Line.TheVariants as L
use Rattle.ob_schedule.specs.declared.want.Side.{Side}
use Rattle.ob_schedule.specs.declared.want.Gate.TheVariants.{Open}
use Rattle.ob_schedule.specs.declared.want.Register.TheVariants.{Generation}
use Rattle.ob_schedule.specs.declared.want.Change.TheVariants.{Settles}
use Rattle.ob_schedule.specs.declared.want.Want.{Want}
use Rattle.ob_schedule.specs.declared.want.Want.TheVariants.{Fixed, Checkpoint}
use Rattle.ob_schedule.specs.Sides.{other, side_number}
use Rattle.ob_schedule.specs.Standing.{StandingKnown}
use Rattle.ob_schedule.specs.Wants.{kept, sets, found_wants, register_wants}
use Rattle.ob_schedule.specs.Follow.{Follow, TakesLine, taken_up, opened, opened_wants, newer_or_same}
use Rattle.ob_histories.specs.Fills.{AllFills, public_at}
use Rattle.ob_histories.specs.Runs.{RunFound, first_turn, opening_step}
use Rattle.ob_histories.specs.Histories.{IsOpeningLeft}
use Rattle.ob_histories.proofs.Ended.{other_side}
use Rattle.ob_histories.proofs.Walks.{Walk, walk_note, walk_join, walk_weaker, walk_within, walk_kept, Stops}
use Rattle.ob_histories.proofs.Places.{at}
use Rattle.ob_histories.proofs.Finding.{RecordsMay, Stands, Allows, holds_rest, epoch_at}
use Rattle.ob_histories.proofs.Sets.{walk_generation}
use Rattle.ob_histories.proofs.Batches.{AtTurn, before}

some_parts : (x : ℕ) → 0 < x → 0 < div_ceil x 96
some_parts x some = omega arith

pub some_checks : (p : Params) → 0 < checkpoint_cells p
unfolding checkpoint_cells checkpoint_len
some_checks p = some_parts (checkpoint_len p) (omega arith)

pub less_one : (n : ℕ) → 0 < n → n ≡ suc (n - 1)
less_one n some = omega (arith, some)

module _ (p : Params) (f : AllFills) (mirrored : Bool) (x : RunFound) (h : Follow) (params : h.params ≡ p) (formatted : h.formatted ≡ true) where
  -- an opening before its sync
  abbrev pub op : Bool → List Want → Follow
  op chosen wants = record { params = p; formatted = true; runs = true; stands = h.stands; newer = h.newer; chosen = chosen; batch = 0; leaves = []; holes = []; wants = wants }

  pub opened_is : opened mirrored h ≡ op false (opened_wants p mirrored h.stands h.newer)
  opened_is = λ i. cond (formatted i)
      (record { params = params i; formatted = formatted i; runs = true; stands = h.stands; newer = h.newer; chosen = false; batch = 0; leaves = []; holes = []; wants = opened_wants (params i) mirrored h.stands h.newer })
      (record { params = params i; formatted = formatted i; runs = false; stands = h.stands; newer = h.newer; chosen = h.chosen; batch = h.batch; leaves = h.leaves; holes = []; wants = kept head_notes })

  abbrev ends : List Note
  ends = set_twin p GenerationTwin (suc x.generation) x.generation_gate

  -- Before the sync all stands as it did, and behind it what was found.
  pub record OpenLeft (k : ℕ) (g : Follow) : Type 0 where
    pub settled : k ≤ length ends → (y : RunFound) → IsOpeningLeft x k y → Stops p (Allows p f y) g
    pub still : length ends < k → (y : RunFound) → Stops p (Allows p f y) h → Stops p (Allows p f y) g

  abbrev IsStill : StandingKnown → Option StandingKnown → Type 0
  IsStill s newer = (s ≡ h.stands) × (newer ≡ h.newer)

  still_left : (k : ℕ) (g : Follow) → length ends < k → Stops p IsStill g → OpenLeft k g
  still_left k g more stops = record {
    settled = λ few. absurd (omega (arith, more, few));
    still = λ many y was. (stops.0, (stops.1.0, subst₂ (λ (s : StandingKnown) (newer : Option StandingKnown). Allows p f y s newer) (sym stops.1.1.0) (sym stops.1.1.1) was.1.1));
  }

  kept_left : (chosen : Bool) (ns : List Note) (ws : List Want) (rest : ℕ) → length ends < rest
      → Walk (λ k. OpenLeft (k + rest)) (taken_up (op chosen (kept ns ++ ws))) ns (taken_up (op chosen ws))
  kept_left chosen ns ws rest many = walk_weaker (λ k. Stops p IsStill) (λ k. OpenLeft (k + rest)) (taken_up (op chosen (kept ns ++ ws))) (taken_up (op chosen ws)) ns
      (λ k g stops. still_left (k + rest) g (omega (arith, many)) stops) (walk_kept p IsStill (op chosen []) ns ws (refl, (refl, (refl, refl))))

  -- what is found
  module _ (z : StandingKnown) (stands : Stands p f x z) where
    abbrev set_wants : List Want
    set_wants = sets p Generation (other z.generation) z.generation_gate

    abbrev found : StandingKnown
    found = record z { generation = other z.generation; generation_gate = Open }

    found_at_turn : AtTurn p f (first_turn x) (suc x.generation) found
    found_at_turn = record {
      holds = holds_rest p f z x.epoch (other z.generation) Open z.epoch_gate z.logged z.maybe stands.0;
      side = other_side z.generation x.generation stands.1.generation;
      generation_gate = refl;
      epoch_gate = stands.1.epoch_gate;
      logged = go x.records refl stands.1.records;
      few = stands.1.few;
      low = omega arith;
    }
      where
        go : (n : ℕ) → x.records ≡ n → RecordsMay z.logged z.maybe x.records → ((0 < x.records) × RecordsMay z.logged z.maybe x.records) ⊎ ((x.records ≤ 0) × (z.logged ≡ 0))
        go zero is (inl same) = inr (omega (arith, is), sym same ∙ is)
        go zero is (inr one) = absurd (omega (arith, is, one.1))
        go (suc n) is may = inl (omega (arith, is), may)

    -- the sync, and the generation's setting
    walk_settle : (chosen : Bool) → cond chosen (newer_or_same h.stands h.newer) h.stands ≡ z
        → Walk OpenLeft (op chosen (Fixed Sync Settles ∷ set_wants)) (Sync ∷ ends) (before p f (first_turn x) found)
    walk_settle chosen is =
        let walk = walk_generation p f x z stands 0 [] in
        let weak : Walk OpenLeft (taken_up (at p z 0 [] [] set_wants)) ends (before p f (first_turn x) found) = walk_within (λ k g. (y : RunFound) → IsOpeningLeft x k y → Stops p (Allows p f y) g) OpenLeft (taken_up (at p z 0 [] [] set_wants)) (before p f (first_turn x) found) ends
        (λ k g few left. record { settled = λ low. left; still = λ many. absurd (omega (arith, many, few)) }) walk in
        walk_note OpenLeft (op chosen (Fixed Sync Settles ∷ set_wants)) (taken_up (at p z 0 [] [] set_wants)) (before p f (first_turn x) found) Sync ends
        (refl, (λ i. taken_up (at p (sym is i) 0 [] [] set_wants))) (still_left (suc (length ends)) (op chosen (Fixed Sync Settles ∷ set_wants)) (omega arith) (refl, (refl, (refl, refl)))) weak

    walk_rest : (chosen : Bool) (ns : List Note) → cond chosen (newer_or_same h.stands h.newer) h.stands ≡ z
        → Walk OpenLeft (taken_up (op chosen (kept ns ++ Fixed Sync Settles ∷ set_wants))) (ns ++ Sync ∷ ends) (before p f (first_turn x) found)
    walk_rest chosen ns is = walk_join OpenLeft (taken_up (op chosen (kept ns ++ Fixed Sync Settles ∷ set_wants))) (op chosen (Fixed Sync Settles ∷ set_wants)) (before p f (first_turn x) found) ns (Sync ∷ ends)
        (kept_left chosen ns (Fixed Sync Settles ∷ set_wants) (length (Sync ∷ ends)) (omega arith)) (walk_settle chosen is)

    abbrev checks : ℕ → ℕ → ℕ → List Note
    checks area from n = reads_of (map (check_cell p area) (range_with_len from n))

    abbrev logs : ℕ → List Note
    logs area = reads_of (region_cells p (LogArea area))

    abbrev area : ℕ
    area = side_number z.epoch

    abbrev next_area : ℕ
    next_area = side_number (other z.epoch)

    same_area : area ≡ (public_at p f x.epoch).epoch % 2
    same_area = stands.0.side ∙ ap (λ (n : ℕ). n % 2) (sym (epoch_at p f x.epoch))

    same_next : next_area ≡ ((public_at p f x.epoch).epoch + 1) % 2
    same_next = other_side z.epoch x.epoch stands.0.side ∙ ap (λ (n : ℕ). n % 2) (sym (add-one x.epoch) ∙ ap (λ (n : ℕ). n + 1) (sym (epoch_at p f x.epoch)))

    abbrev many : ℕ
    many = checkpoint_cells p - 1

    all_checks : checkpoint_cells p ≡ suc many
    all_checks = less_one (checkpoint_cells p) (some_checks p)

    abbrev found_reads : List Note
    found_reads = checks area 0 (suc many) ++ logs next_area

    are_wants : found_wants p z ≡ kept found_reads ++ Fixed Sync Settles ∷ set_wants
    are_wants = ap (λ (n : ℕ). kept (checks area 0 n ++ logs next_area) ++ Fixed Sync Settles ∷ set_wants) all_checks

    abbrev registers : List Note
    registers = first_reads p mirrored ++ reads_of (region_cells p GenerationTwin ++ region_cells p EpochTwin)

    -- the schedule's notes
    are_notes : registers ++ (found_reads ++ Sync ∷ ends) ≡ opening_step p f mirrored x
    are_notes =
        let reads : List Note = reads_of (region_cells p GenerationTwin ++ region_cells p EpochTwin) in
        let c : List Note = reads_of (check_cells p ((public_at p f x.epoch).epoch % 2)) in
        let l : List Note = logs (((public_at p f x.epoch).epoch + 1) % 2) in
        let cells : checks area 0 (suc many) ≡ c = ap (λ (n : ℕ). checks area 0 n) (sym all_checks) ∙ ap (λ (a : ℕ). checks a 0 (checkpoint_cells p)) same_area in
        let found_same : found_reads ≡ c ++ l = (λ i. cells i ++ logs (same_next i)) in
        ap (λ (ns : List Note). registers ++ (ns ++ Sync ∷ ends)) found_same
        ∙ append_assoc (first_reads p mirrored) reads ((c ++ l) ++ Sync ∷ ends)
        ∙ ap (λ (ns : List Note). first_reads p mirrored ++ ns)
        (sym (append_assoc reads (c ++ l) (Sync ∷ ends)) ∙ ap (λ (ns : List Note). ns ++ Sync ∷ ends) (sym (append_assoc reads c l)) ∙ sym (append_assoc ((reads ++ c) ++ l) (Sync ∷ []) ends))

    -- what is found is sure
    walk_sure : h.newer ≡ None → h.stands ≡ z → Walk OpenLeft (opened mirrored h) (opening_step p f mirrored x) (before p f (first_turn x) found)
    walk_sure none is =
        let wants : opened_wants p mirrored h.stands h.newer ≡ kept registers ++ (kept found_reads ++ Fixed Sync Settles ∷ set_wants) =
        (λ i. opened_wants p mirrored (is i) (none i)) ∙ ap (λ (ws : List Want). register_wants p mirrored ++ ws) are_wants in
        let mid : Follow = taken_up (op false (kept found_reads ++ Fixed Sync Settles ∷ set_wants)) in
        let start : Follow = taken_up (op false (kept registers ++ (kept found_reads ++ Fixed Sync Settles ∷ set_wants))) in
        let first : Walk (λ k. OpenLeft (k + length (found_reads ++ Sync ∷ ends))) start registers mid =
        kept_left false registers (kept found_reads ++ Fixed Sync Settles ∷ set_wants) (length (found_reads ++ Sync ∷ ends)) (omega (arith, length-append found_reads (Sync ∷ ends))) in
        let whole : Walk OpenLeft start (registers ++ (found_reads ++ Sync ∷ ends)) (before p f (first_turn x) found) = walk_join OpenLeft start mid (before p f (first_turn x) found) registers (found_reads ++ Sync ∷ ends) first (walk_rest false found_reads is) in
        subst₂ (λ (g : Follow) (ns : List Note). Walk OpenLeft g ns (before p f (first_turn x) found)) (sym (opened_is ∙ ap (op false) wants)) are_notes whole

    -- it may be either epoch, and the first cell of its checkpoint tells
    abbrev more_reads : List Note
    more_reads = checks area 1 many ++ logs next_area

    walk_tells : (chosen : Bool) (newer : StandingKnown) → h.newer ≡ Some newer → cond chosen (newer_or_same h.stands h.newer) h.stands ≡ z
        → TakesLine (op false (Checkpoint ∷ [])) (L.Note (Read (check_cell p area 0))) (taken_up (op chosen (kept more_reads ++ Fixed Sync Settles ∷ set_wants)))
        → Walk OpenLeft (opened mirrored h) (opening_step p f mirrored x) (before p f (first_turn x) found)
    walk_tells chosen newer some is takes =
        let wants : opened_wants p mirrored h.stands h.newer ≡ kept registers ++ Checkpoint ∷ [] = ap (opened_wants p mirrored h.stands) some in
        let mid : Follow = op false (Checkpoint ∷ []) in
        let next : Follow = taken_up (op chosen (kept more_reads ++ Fixed Sync Settles ∷ set_wants)) in
        let start : Follow = taken_up (op false (kept registers ++ Checkpoint ∷ [])) in
        let many_left : length ends < length (found_reads ++ Sync ∷ ends) = omega (arith, length-append found_reads (Sync ∷ ends)) in
        let first : Walk (λ k. OpenLeft (k + length (found_reads ++ Sync ∷ ends))) start registers mid = kept_left false registers (Checkpoint ∷ []) (length (found_reads ++ Sync ∷ ends)) many_left in
        let tells : Walk OpenLeft mid (found_reads ++ Sync ∷ ends) (before p f (first_turn x) found) = walk_note OpenLeft mid next (before p f (first_turn x) found) (Read (check_cell p area 0)) (more_reads ++ Sync ∷ ends) takes
        (still_left (suc (length (more_reads ++ Sync ∷ ends))) mid (omega (arith, length-append more_reads (Sync ∷ ends))) (refl, (refl, (refl, refl)))) (walk_rest chosen more_reads is) in
        let whole : Walk OpenLeft start (registers ++ (found_reads ++ Sync ∷ ends)) (before p f (first_turn x) found) = walk_join OpenLeft start mid (before p f (first_turn x) found) registers (found_reads ++ Sync ∷ ends) first tells in
        subst₂ (λ (g : Follow) (ns : List Note). Walk OpenLeft g ns (before p f (first_turn x) found)) (sym (opened_is ∙ ap (op false) wants)) are_notes whole

  abbrev Opens : Type 0
  Opens = (s : StandingKnown) × (AtTurn p f (first_turn x) (suc x.generation) s × Walk OpenLeft (opened mirrored h) (opening_step p f mirrored x) (before p f (first_turn x) s))

  opens_by : (newer : Option StandingKnown) → h.newer ≡ newer → Allows p f x h.stands newer → Opens
  opens_by None none stands = (found h.stands stands, (found_at_turn h.stands stands, walk_sure h.stands stands none refl))
  opens_by (Some newer) some (inl stands) =
      let older : StandingKnown = h.stands in (
        found older stands,
        (
          found_at_turn older stands,
          walk_tells older stands false newer some refl
              (inl (record { is = refl; then = λ i. taken_up (op false (drop 1 (sym (are_wants older stands) i))) })),
        ),
      )
  opens_by (Some newer) some (inr (turned, stands)) =
      let all_wants : found_wants p (newer_or_same h.stands h.newer) ≡ kept (found_reads newer stands) ++ Fixed Sync Settles ∷ set_wants newer stands =
      ap (λ (o : Option StandingKnown). found_wants p (newer_or_same h.stands o)) some ∙ are_wants newer stands in (
        found newer stands,
        (
          found_at_turn newer stands,
          walk_tells newer stands true newer some (ap (newer_or_same h.stands) some)
              (inr (record { is = ap (λ (side : Side). Read (check_cell p (side_number side) 0)) turned; then = λ i. taken_up (op true (drop 1 (sym all_wants i))) })),
        ),
      )

pub opens : (p : Params) (f : AllFills) (mirrored : Bool) (x : RunFound) (h : Follow) → (stops : Stops p (Allows p f x) h) → Opens p f mirrored x h stops.0 stops.1.0
opens p f mirrored x h stops = opens_by p f mirrored x h stops.0 stops.1.0 h.newer refl stops.1.1
