use Rattle.std.proofs.Common.{◌≡◌, ◌≤◌, ◌+◌, ◌^◌, ℕ, ◌++◌, ◌∷◌, [], List, OnOk, IfErr, None, Result, Ok, Err, refl, ◌∙◌, subst, arith, length, take, ap, rules}
use Rattle.std.proofs.lemmas.List.{length-take-le}
use Rattle.ob_base.specs.declared.fault.Fault.{Fault}
use Rattle.ob_base.specs.declared.fault.Fault.TheVariants.{StoreFault}
use Rattle.ob_log.specs.Appends.{AppendStages, HoldsOneOf, HoldsRecord, IsAppendFault, IsWornOut, record_for}
use Rattle.ob_log.specs.Logs.{OpenRecords, RecordObeys}
use Rattle.ob_log.proofs.AppendLaws.{obeys_for}
use Rattle.ob_store.specs.Disk.{Image}
use Rattle.ob_store.specs.Images.{LeavesOnly}
use Rattle.ob_fetch.proofs.FetchLaws.{append_fault, draws_are, drawn_as}
use Rattle.ob_fetch.proofs.SealLaws.{when_logged}
use Rattle.ob_fetch.proofs.beginning.begin_batch.Goals as goal

-- an append for which there are seals is refused by the store alone
only_store : (r : Result (Unit {0}) Fault) → IfErr r IsAppendFault → (IsWornOut r → ⊥) → IfErr r (λ f. f ≡ StoreFault None)
only_store (Ok done) fault none = tt
only_store (Err f) fault none = append_fault f fault none

-- the front of words that are as many as before
taken : (places : ℕ) (old new : List ℕ) → length new ≡ length old → places ≤ length old → length (take places new) ≡ places
taken places old new room most = length-take-le places new (omega arith)

pub returns-clause-serves : goal.returns-clause-serves
returns-clause-serves g c = c.append.ensures.serves

pub returns-clause-faults : goal.returns-clause-faults
returns-clause-faults g c = only_store c.append.result c.append.ensures.faults (λ worn. let over = c.append.ensures.worn.0 worn in let left = c.requires.seals_left in omega arith)

pub returns-clause-draws : goal.returns-clause-draws
returns-clause-draws g c = draws_are c.args.p.now.places _ _ _ c.draw_front.ensures.drawn (taken c.args.p.now.places _ _ c.draw_front.ensures.room c.requires.room)

pub returns-clause-words : goal.returns-clause-words
returns-clause-words g c = drawn_as _ _ _ c.draw_front.ensures.drawn

pub returns-clause-seals : goal.returns-clause-seals
returns-clause-seals g c = c.append.ensures.seals

pub returns-clause-written : goal.returns-clause-written
returns-clause-written g c = λ tells.
    let same = c.front-words.ensures ∙ drawn_as _ _ _ c.draw_front.ensures.drawn in
    subst (λ (words : List ℕ). OnOk c.append.result (HoldsRecord c.args.sealer.now.keys c.args.p.now c.args.epoch c.args.batch (record_for c.args.sealer.now c.args.batch c.args.first c.args.asks.now words) (g.S.Store.disk c.append.new.store).cells)) same
    (c.append.ensures.written tells)

pub returns-clause-within : goal.returns-clause-within
returns-clause-within g c = c.append.ensures.within

pub returns-clause-durable : goal.returns-clause-durable
returns-clause-durable g c = c.append.ensures.durable

pub returns-clause-open : goal.returns-clause-open
returns-clause-open g c = λ rs tells many held.
    let same = c.front-words.ensures ∙ drawn_as _ _ _ c.draw_front.ensures.drawn in
    subst
    (λ (words : List ℕ). OnOk c.append.result ((i : Image) → (g.S.Store.disk c.append.new.store).may_leave i
    → OpenRecords c.args.sealer.now.keys c.args.p.now c.args.epoch (rs ++ record_for c.args.sealer.now c.args.batch c.args.first c.args.asks.now words ∷ []) i)) same
    (c.append.ensures.open_has_acknowledged rs tells many held)

pub returns-clause-images : goal.returns-clause-images
returns-clause-images g c = λ rs tells synced many held.
    let same = c.front-words.ensures ∙ drawn_as _ _ _ c.draw_front.ensures.drawn in
    subst
    (λ (words : List ℕ). LeavesOnly (g.S.Store.disk c.args.store.now) (g.S.Store.disk c.append.new.store)
    (HoldsOneOf c.args.sealer.now.keys c.args.p.now c.args.epoch rs (record_for c.args.sealer.now c.args.batch c.args.first c.args.asks.now words))) same
    (c.append.ensures.open_prefix rs tells synced many held)

pub returns-clause-stages : goal.returns-clause-stages
returns-clause-stages g c =
    let same = c.front-words.ensures ∙ drawn_as _ _ _ c.draw_front.ensures.drawn in
    subst
    (λ (words : List ℕ). AppendStages g.S.Store.disk c.args.sealer.now.keys c.args.p.now c.args.epoch c.args.batch (record_for c.args.sealer.now c.args.batch c.args.first c.args.asks.now words) c.args.store.now c.append.new.store
    (g.W.Watch.trace c.args.watch.now) (g.W.Watch.trace c.append.new.watch) c.append.result) same
    c.append.ensures.stages

pub returns-clause-does : goal.returns-clause-does
returns-clause-does g c = c.append.ensures.does

pub returns-clause-sealed : goal.returns-clause-sealed
returns-clause-sealed g c = λ tells.
    when_logged c.append.result c.args.p.now c.args.epoch c.args.batch (record_for c.args.sealer.now c.args.batch c.args.first c.args.asks.now c.front-words.result.now) c.args.sealer.now c.append.new.sealer
    (g.S.Store.disk c.args.store.now).cells (g.S.Store.disk c.append.new.store).cells refl refl c.append.ensures.seals c.requires.seals_left (c.append.ensures.written tells) (c.append.ensures.within.rest tells)

pub append-requires-clause-words : goal.append-requires-clause-words
append-requires-clause-words g c = ap length c.front-words.ensures ∙ taken c.args.p.now.places _ _ c.draw_front.ensures.room c.requires.room

pub returns-clause-room : goal.returns-clause-room
returns-clause-room g c = c.draw_front.ensures.room

pub returns-clause-same : goal.returns-clause-same
returns-clause-same g c = c.draw_front.ensures.same

pub append-requires-clause-none_out : goal.append-requires-clause-none_out
append-requires-clause-none_out g c = c.requires.none_out

pub append-requires-clause-keys_low : goal.append-requires-clause-keys_low
append-requires-clause-keys_low g c = c.requires.keys_low

pub append-requires-clause-keys_apart : goal.append-requires-clause-keys_apart
append-requires-clause-keys_apart g c = c.requires.keys_apart

pub append-requires-clause-batch : goal.append-requires-clause-batch
append-requires-clause-batch g c = c.requires.batch

pub append-requires-clause-asks : goal.append-requires-clause-asks
append-requires-clause-asks g c = c.requires.asks

pub append-requires-clause-epoch : goal.append-requires-clause-epoch
append-requires-clause-epoch g c = c.requires.epoch

pub draw_front-requires-clause-few : goal.draw_front-requires-clause-few
draw_front-requires-clause-few g c = c.requires.room

pub draw_front-requires-clause-room : goal.draw_front-requires-clause-room
draw_front-requires-clause-room g c = subst (λ n. n + c.args.p.now.places ≤ 2 ^ 62) c.requires.first c.requires.words_left

pub returns-clause-obeys : goal.returns-clause-obeys
returns-clause-obeys g c =
    let same = c.front-words.ensures ∙ drawn_as _ _ _ c.draw_front.ensures.drawn in
    let many = ap length c.front-words.ensures ∙ taken c.args.p.now.places _ _ c.draw_front.ensures.room c.requires.room in
    subst (λ (words : List ℕ). RecordObeys c.args.p.now c.args.batch (record_for c.args.sealer.now c.args.batch c.args.first c.args.asks.now words)) same
    (obeys_for c.args.p.now c.args.sealer.now c.args.batch c.args.first c.args.asks.now c.front-words.result.now (let low = c.requires.generation in omega arith) (let left = c.requires.seals_left in omega arith) c.ranges.first.fits
    c.requires.asks many (λ i. search rules) c.requires.keys_low c.requires.keys_apart)
