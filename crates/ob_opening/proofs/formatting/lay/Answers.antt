use Rattle.std.proofs.Common.{◌≡◌, inl, inr, refl, ◌*◌, ℕ, List, ◌++◌, replicate, sym, ◌∙◌, ap, subst, arith, Ok, Err}
use Rattle.ob_base.specs.Tree.{buckets, width}
use Rattle.ob_store.specs.declared.watch.Note.{Note}
use Rattle.ob_base.specs.declared.fault.Failed.{Failed}
use Rattle.ob_store.specs.Calls.{IsFailed, Notes}
use Rattle.ob_store.specs.Disk.{Image}
use Rattle.ob_store.specs.Images.{SameBut}
use Rattle.ob_store.specs.Told.{Does, Tells, TellsFirst, events_of}
use Rattle.ob_store.proofs.Serving.{on_ok, if_ok, if_err, goes_then, serves_then}
use Rattle.ob_store.proofs.Doing.{does_err, does_then, first_more, first_behind}
use Rattle.ob_seal.specs.declared.keys.Keys.{Keys}
use Rattle.ob_tables.specs.Buckets.{Buckets}
use Rattle.ob_check.specs.Written as check
use Rattle.ob_tables.specs.Content.{Content, Obeys}
use Rattle.ob_schedule.specs.Schedule.{format_notes}
use Rattle.ob_base.specs.declared.params.Params.{Params}
use Rattle.ob_twin.specs.Keyed.{tagging}
use Rattle.ob_twin.specs.Orders.{through_notes}
use Rattle.ob_start.specs.Heads.{head_cell}
use Rattle.ob_start.specs.Laying.{AreShut, LieBehind}
use Rattle.ob_start.specs.Orders.{lay_notes}
use Rattle.ob_start.proofs.Clearing.{no_head_left}
use Rattle.ob_start.proofs.InClear.{laid_then}
use Rattle.ob_stand.specs.Fresh.{fresh_content}
use Rattle.ob_stand.proofs.FreshLaws.{fresh_obeys}
use Rattle.ob_opening.specs.Formats.{HasBlankSlots, IsHeadOrBlank, IsRingLaid, all_gates, drawn_ranks, epoch_notes}
use Rattle.ob_opening.proofs.ClearLaws.{head_last, laid_wider}
use Rattle.ob_opening.proofs.FirstLaws.{are_ranked, as_cleared, begins_sure, content_is, formatted, gates_behind, gates_formatted, head_written, laid, still_cleared}
use Rattle.ob_opening.proofs.OrderLaws.{format_is}
use Rattle.ob_opening.proofs.formatting.lay.Goals as goal

pub lay_registers-requires-clause-behind : goal.lay_registers-requires-clause-behind
lay_registers-requires-clause-behind g c = subst (λ (l : List ℕ). LieBehind 8 l) (sym c.requires.gates) (gates_behind c.args.p.now)

pub lay_epoch-requires-clause-obeys : goal.lay_epoch-requires-clause-obeys
lay_epoch-requires-clause-obeys g c κs inside =
    let p = c.args.p.now in
    let drawn = g.T.Tape.drawn c.fill_all.new.tape in
    let content = content_is p drawn c.args.tables.now (record c.args.tables.now { metas = c.fill_all.new.metas }) c.requires.blank (ap (λ (b : Buckets). record c.args.tables.now { metas = b }) c.fill_all.ensures.versions) in
    subst (λ (x : Content). Obeys p x) (sym content) (fresh_obeys p (drawn_ranks p drawn) (are_ranked p drawn c.fill_all.ensures.many))

pub returns-in-Err-clause-does : goal.returns-in-Err-clause-does
returns-in-Err-clause-does g c =
    let p = c.args.p.now in
    let all = all_gates p in
    does_err _ _ _ _ (format_notes p) c.in-Err.failed
    (subst (λ (notes : List Note). TellsFirst notes (g.S.Store.disk c.args.store.now).seen (g.S.Store.disk c.lay_registers.new.store).seen (g.W.Watch.trace c.args.watch.now) (g.W.Watch.trace c.lay_registers.new.watch)) (format_is p)
    (first_more _ _ _ _ (lay_notes all) (epoch_notes p ++ through_notes 0)
    (subst (λ (gates : List ℕ). TellsFirst (lay_notes gates) (g.S.Store.disk c.args.store.now).seen (g.S.Store.disk c.lay_registers.new.store).seen (g.W.Watch.trace c.args.watch.now) (g.W.Watch.trace c.lay_registers.new.watch)) c.requires.gates c.in-Err.ensures.does.first)))

pub returns-in-Err-lay_epoch-clause-does : goal.returns-in-Err-lay_epoch-clause-does
returns-in-Err-lay_epoch-clause-does g c =
    let p = c.args.p.now in
    let all = all_gates p in
    does_err _ _ _ _ (format_notes p) c.in-Err-lay_epoch.failed
    (subst (λ (notes : List Note). TellsFirst notes (g.S.Store.disk c.args.store.now).seen (g.S.Store.disk c.lay_epoch.new.store).seen (g.W.Watch.trace c.args.watch.now) (g.W.Watch.trace c.lay_epoch.new.watch)) (format_is p)
    (first_behind _ _ _ _ _ _ (lay_notes all) (epoch_notes p ++ through_notes 0)
    (subst (λ (gates : List ℕ). Tells (lay_notes gates) (lay_notes gates) (g.S.Store.disk c.args.store.now).seen (g.S.Store.disk c.lay_registers.new.store).seen (g.W.Watch.trace c.args.watch.now) (g.W.Watch.trace c.lay_registers.new.watch)) c.requires.gates c.in-Ok.ensures.does.all)
    (first_more _ _ _ _ (epoch_notes p) (through_notes 0) c.in-Err-lay_epoch.ensures.does.first)))

pub returns-clause-does : goal.returns-clause-does
returns-clause-does g c =
    let p = c.args.p.now in
    let all = all_gates p in
    subst (λ (notes : List Note). Does notes (g.S.Store.disk c.args.store.now).seen (g.S.Store.disk c.write_out.new.store).seen (g.W.Watch.trace c.args.watch.now) (g.W.Watch.trace c.write_out.new.watch) c.write_out.result) (format_is p)
    (does_then _ _ _ _ _ _ (lay_notes all) (epoch_notes p ++ through_notes 0) c.write_out.result
    (subst (λ (gates : List ℕ). Tells (lay_notes gates) (lay_notes gates) (g.S.Store.disk c.args.store.now).seen (g.S.Store.disk c.lay_registers.new.store).seen (g.W.Watch.trace c.args.watch.now) (g.W.Watch.trace c.lay_registers.new.watch)) c.requires.gates c.in-Ok.ensures.does.all)
    (does_then _ _ _ _ _ _ (epoch_notes p) (through_notes 0) c.write_out.result c.in-Ok-lay_epoch.ensures.does.all c.write_out.ensures.does))

pub returns-in-Err-lay_epoch-clause-serves : goal.returns-in-Err-lay_epoch-clause-serves
returns-in-Err-lay_epoch-clause-serves g c =
    let a = c.in-Ok.ensures.serves in
    serves_then IsFailed _ (g.S.Store.disk c.lay_registers.new.store) _ (Err c.in-Err-lay_epoch.failed) a.goes a.out a.tells c.in-Err-lay_epoch.ensures.serves

pub returns-clause-serves : goal.returns-clause-serves
returns-clause-serves g c =
    let a = c.in-Ok.ensures.serves in
    let b = c.in-Ok-lay_epoch.ensures.serves in
    serves_then IsFailed (g.S.Store.disk c.args.store.now) (g.S.Store.disk c.lay_epoch.new.store) (g.S.Store.disk c.write_out.new.store) c.write_out.result
    (goes_then _ _ _ a.goes b.goes) (let x = a.out in let y = b.out in omega arith) (λ t. b.tells (a.tells t)) c.write_out.ensures.serves

pub returns-clause-stands : goal.returns-clause-stands
returns-clause-stands g c = λ tells.
    let p = c.args.p.now in
    let keys = c.args.sealer.now.keys in
    let drawn = g.T.Tape.drawn c.fill_all.new.tape in
    let new = (g.S.Store.disk c.write_out.new.store).cells in
    let a = c.in-Ok.ensures in
    let b = c.in-Ok-lay_epoch.ensures in
    let one = a.serves.tells tells in
    let two = b.serves.tells one in
    let regs = (g.S.Store.disk c.lay_registers.new.store).cells in
    let cells = (g.S.Store.disk c.lay_epoch.new.store).cells in
    let content = content_is p drawn c.args.tables.now (record c.args.tables.now { metas = c.fill_all.new.metas }) c.requires.blank (ap (λ (x : Buckets). record c.args.tables.now { metas = x }) c.fill_all.ensures.versions) in
    let shut = subst (λ (l : List ℕ). AreShut l regs) c.requires.gates (a.shut tells) in
    let slots = subst (λ (n : ℕ). HasBlankSlots keys p n cells) c.requires.generation (b.slots one) in
    let checked = subst (λ (n : ℕ). check.HoldsCheckpointFrom keys p 0 (fresh_content p (drawn_ranks p drawn)) n (buckets p * width p) cells) c.requires.generation
    (subst (λ (x : Content). check.HoldsCheckpointFrom keys p 0 x c.args.sealer.now.generation (buckets p * width p) cells) content (b.checkpoint one)) in
    let made : (image : Image) → SameBut 0 image cells → IsRingLaid keys p drawn image = laid keys p drawn c.fill_all.ensures.many regs cells (a.generation tells) (b.low one) (b.log one) shut (b.epoch one) slots checked in
    let head : c.head_cell.result ≡ head_cell keys 1 p = c.head_cell.ensures ∙ ap (λ (k : Keys). head_cell k 1 p) c.in-Ok-lay_epoch.ensures.same_keys in
    on_ok _ _ c.write_out.result (λ written. formatted keys p drawn c.fill_all.ensures.many new (made new (c.write_out.ensures.rest two)) (written ∙ head)) (c.write_out.ensures.written two)

pub returns-clause-laid : goal.returns-clause-laid
returns-clause-laid g c = λ tells.
    let p = c.args.p.now in
    let keys = c.args.sealer.now.keys in
    let drawn = g.T.Tape.drawn c.fill_all.new.tape in
    let new = (g.S.Store.disk c.write_out.new.store).cells in
    let a = c.in-Ok.ensures in
    let b = c.in-Ok-lay_epoch.ensures in
    let one = a.serves.tells tells in
    let two = b.serves.tells one in
    let regs = (g.S.Store.disk c.lay_registers.new.store).cells in
    let cells = (g.S.Store.disk c.lay_epoch.new.store).cells in
    let content = content_is p drawn c.args.tables.now (record c.args.tables.now { metas = c.fill_all.new.metas }) c.requires.blank (ap (λ (x : Buckets). record c.args.tables.now { metas = x }) c.fill_all.ensures.versions) in
    let shut = subst (λ (l : List ℕ). AreShut l regs) c.requires.gates (a.shut tells) in
    let slots = subst (λ (n : ℕ). HasBlankSlots keys p n cells) c.requires.generation (b.slots one) in
    let checked = subst (λ (n : ℕ). check.HoldsCheckpointFrom keys p 0 (fresh_content p (drawn_ranks p drawn)) n (buckets p * width p) cells) c.requires.generation
    (subst (λ (x : Content). check.HoldsCheckpointFrom keys p 0 x c.args.sealer.now.generation (buckets p * width p) cells) content (b.checkpoint one)) in
    let made : (image : Image) → SameBut 0 image cells → IsRingLaid keys p drawn image = laid keys p drawn c.fill_all.ensures.many regs cells (a.generation tells) (b.low one) (b.log one) shut (b.epoch one) slots checked in
    if_ok _ c.write_out.result (made new (c.write_out.ensures.rest two))

pub returns-in-Err-clause-crash : goal.returns-in-Err-clause-crash
returns-in-Err-clause-crash g c = λ tells.
    as_cleared c.args.sealer.now.keys c.args.p.now (g.T.Tape.drawn c.args.tape.now) (g.S.Store.disk c.args.store.now) (g.S.Store.disk c.lay_registers.new.store) (c.lay_registers.ensures.crash tells)

pub returns-in-Err-lay_epoch-clause-crash : goal.returns-in-Err-lay_epoch-clause-crash
returns-in-Err-lay_epoch-clause-crash g c = λ tells.
    let mid = g.S.Store.disk c.lay_registers.new.store in
    let new = g.S.Store.disk c.lay_epoch.new.store in
    let a = c.in-Ok.ensures in
    still_cleared c.args.sealer.now.keys c.args.p.now (g.T.Tape.drawn c.fill_all.new.tape) (g.S.Store.disk c.args.store.now) mid new (c.lay_registers.ensures.crash tells)
    (no_head_left mid new (g.met.S.Store.only_now c.lay_registers.new.store) (a.blank tells) (a.durable tells) c.lay_epoch.ensures.passes)

pub returns-clause-crash : goal.returns-clause-crash
returns-clause-crash g c = λ tells.
    let p = c.args.p.now in
    let keys = c.args.sealer.now.keys in
    let drawn = g.T.Tape.drawn c.fill_all.new.tape in
    let old = g.S.Store.disk c.args.store.now in
    let mid = g.S.Store.disk c.lay_registers.new.store in
    let whole = g.S.Store.disk c.lay_epoch.new.store in
    let new = g.S.Store.disk c.write_out.new.store in
    let a = c.in-Ok.ensures in
    let b = c.in-Ok-lay_epoch.ensures in
    let one = a.serves.tells tells in
    let two = b.serves.tells one in
    let regs = (g.S.Store.disk c.lay_registers.new.store).cells in
    let cells = (g.S.Store.disk c.lay_epoch.new.store).cells in
    let content = content_is p drawn c.args.tables.now (record c.args.tables.now { metas = c.fill_all.new.metas }) c.requires.blank (ap (λ (x : Buckets). record c.args.tables.now { metas = x }) c.fill_all.ensures.versions) in
    let shut = subst (λ (l : List ℕ). AreShut l regs) c.requires.gates (a.shut tells) in
    let slots = subst (λ (n : ℕ). HasBlankSlots keys p n cells) c.requires.generation (b.slots one) in
    let checked = subst (λ (n : ℕ). check.HoldsCheckpointFrom keys p 0 (fresh_content p (drawn_ranks p drawn)) n (buckets p * width p) cells) c.requires.generation
    (subst (λ (x : Content). check.HoldsCheckpointFrom keys p 0 x c.args.sealer.now.generation (buckets p * width p) cells) content (b.checkpoint one)) in
    let made : (image : Image) → SameBut 0 image cells → IsRingLaid keys p drawn image = laid keys p drawn c.fill_all.ensures.many regs cells (a.generation tells) (b.low one) (b.log one) shut (b.epoch one) slots checked in
    head_written keys p drawn old whole new
    (still_cleared keys p drawn old mid whole (c.lay_registers.ensures.crash tells) (no_head_left mid whole (g.met.S.Store.only_now c.lay_registers.new.store) (a.blank tells) (a.durable tells) c.lay_epoch.ensures.passes))
    made (c.write_out.ensures.any_moment (b.durable one))

pub returns-in-Err-lay_epoch-clause-begins_err : goal.returns-in-Err-lay_epoch-clause-begins_err
returns-in-Err-lay_epoch-clause-begins_err g c =
    let a = c.in-Ok.ensures in
    inr (record {
      between = c.lay_registers.new.store;
      sure = λ tells image left. begins_sure c.args.sealer.now.keys (g.S.Store.disk c.lay_registers.new.store) (a.generation tells) (a.durable tells) image left;
      begun = subst (λ (gates : List ℕ). Notes (events_of (lay_notes gates)) (g.S.Store.disk c.args.store.now).seen (g.S.Store.disk c.lay_registers.new.store).seen) c.requires.gates a.does.all.seen;
      later = c.lay_epoch.ensures.serves.goes;
    })

pub returns-clause-begins_err : goal.returns-clause-begins_err
returns-clause-begins_err g c =
    let a = c.in-Ok.ensures in
    if_err _ c.write_out.result (inr (record {
      between = c.lay_registers.new.store;
      sure = λ tells image left. begins_sure c.args.sealer.now.keys (g.S.Store.disk c.lay_registers.new.store) (a.generation tells) (a.durable tells) image left;
      begun = subst (λ (gates : List ℕ). Notes (events_of (lay_notes gates)) (g.S.Store.disk c.args.store.now).seen (g.S.Store.disk c.lay_registers.new.store).seen) c.requires.gates a.does.all.seen;
      later = goes_then _ _ _ c.in-Ok-lay_epoch.ensures.serves.goes c.write_out.ensures.serves.goes;
    }))

pub returns-clause-begins : goal.returns-clause-begins
returns-clause-begins g c =
    let a = c.in-Ok.ensures in
    if_ok _ c.write_out.result (record {
      between = c.lay_registers.new.store;
      sure = λ tells image left. begins_sure c.args.sealer.now.keys (g.S.Store.disk c.lay_registers.new.store) (a.generation tells) (a.durable tells) image left;
      begun = subst (λ (gates : List ℕ). Notes (events_of (lay_notes gates)) (g.S.Store.disk c.args.store.now).seen (g.S.Store.disk c.lay_registers.new.store).seen) c.requires.gates a.does.all.seen;
      later = goes_then _ _ _ c.in-Ok-lay_epoch.ensures.serves.goes c.write_out.ensures.serves.goes;
    })

pub returns-in-Err-clause-serves : goal.returns-in-Err-clause-serves
returns-in-Err-clause-serves g c = c.in-Err.ensures.serves

-- ---- what each of them may begin with

pub lay_registers-requires-clause-none_out : goal.lay_registers-requires-clause-none_out
lay_registers-requires-clause-none_out g c = c.requires.none_out

pub start-requires : goal.start-requires
start-requires g c = (let none = c.requires.unstarted in omega arith)

pub fill_all-requires-clause-none : goal.fill_all-requires-clause-none
fill_all-requires-clause-none g c = c.start.ensures.none_drawn

pub fill_all-requires-clause-blank : goal.fill_all-requires-clause-blank
fill_all-requires-clause-blank g c = c.requires.blank.metas

pub lay_epoch-requires-clause-none_out : goal.lay_epoch-requires-clause-none_out
lay_epoch-requires-clause-none_out g c κs inside = (let none = c.requires.none_out in let out = c.lay_registers.ensures.serves.out in omega arith)

pub lay_epoch-requires-clause-first : goal.lay_epoch-requires-clause-first
lay_epoch-requires-clause-first g c κs inside = c.requires.first

pub lay_epoch-requires-clause-sheet : goal.lay_epoch-requires-clause-sheet
lay_epoch-requires-clause-sheet g c κs inside = c.requires.sheet

pub lay_epoch-requires-clause-closed : goal.lay_epoch-requires-clause-closed
lay_epoch-requires-clause-closed g c κs inside = λ told. c.in-Ok.ensures.epoch (c.lay_registers.ensures.serves.goes.told told)

pub write_out-requires : goal.write_out-requires
write_out-requires g c = (let none = c.requires.none_out in let first = c.lay_registers.ensures.serves.out in let second = c.lay_epoch.ensures.serves.out in omega arith)

pub returns-in-Err-clause-begins_err : goal.returns-in-Err-clause-begins_err
returns-in-Err-clause-begins_err g c = inl refl

pub returns-clause-drawn : goal.returns-clause-drawn
returns-clause-drawn g c = if_ok _ c.write_out.result (c.fill_all.ensures.same ∙ c.start.ensures.in_force, c.fill_all.ensures.many)

pub returns-clause-durable : goal.returns-clause-durable
returns-clause-durable g c = λ tells. c.write_out.ensures.durable (c.in-Ok-lay_epoch.ensures.serves.tells (c.in-Ok.ensures.serves.tells tells))

-- ---- in the clear

blank_first : (keys : Keys) (p : Params) (bytes : List ℕ) → bytes ≡ replicate 128 0 → IsHeadOrBlank keys p bytes
blank_first keys p bytes is = inl is

pub returns-in-Err-clause-clear : goal.returns-in-Err-clause-clear
returns-in-Err-clause-clear g c = λ tells.
    let keys = c.args.sealer.now.keys in
    let p = c.args.p.now in
    let new = g.S.Store.disk c.lay_registers.new.store in
    (laid_wider (λ bytes. bytes ≡ replicate 128 0) (IsHeadOrBlank keys p) (blank_first keys p) (tagging keys) (g.S.Store.disk c.args.store.now).cells new.cells {T = Unit {0}} {E = Failed} new.seen (Err c.in-Err.failed) (c.in-Err.ensures.clear tells), tt)

pub returns-in-Err-lay_epoch-clause-clear : goal.returns-in-Err-lay_epoch-clause-clear
returns-in-Err-lay_epoch-clause-clear g c = λ tells.
    let keys = c.args.sealer.now.keys in
    let p = c.args.p.now in
    let old = (g.S.Store.disk c.args.store.now).cells in
    let mid = g.S.Store.disk c.lay_registers.new.store in
    let new = g.S.Store.disk c.lay_epoch.new.store in
    let there = c.lay_epoch.ensures.serves.goes.told tells in (
      laid_then (IsHeadOrBlank keys p) (tagging keys) old mid.cells new.cells
          (laid_wider (λ bytes. bytes ≡ replicate 128 0) (IsHeadOrBlank keys p) (blank_first keys p) (tagging keys) old mid.cells {T = Unit {0}} {E = Failed} mid.seen (Ok tt) (c.in-Ok.ensures.clear there))
          {T = Unit {0}} {E = Failed} new.seen (Err c.in-Err-lay_epoch.failed) (c.in-Err-lay_epoch.ensures.clear tells),
      tt,
    )

pub returns-clause-clear : goal.returns-clause-clear
returns-clause-clear g c = λ tells.
    let keys = c.args.sealer.now.keys in
    let p = c.args.p.now in
    let old = (g.S.Store.disk c.args.store.now).cells in
    let mid = g.S.Store.disk c.lay_registers.new.store in
    let whole = g.S.Store.disk c.lay_epoch.new.store in
    let new = g.S.Store.disk c.write_out.new.store in
    let two = c.write_out.ensures.serves.goes.told tells in
    let one = c.lay_epoch.ensures.serves.goes.told two in
    let head : c.head_cell.result ≡ head_cell keys 1 p = c.head_cell.ensures ∙ ap (λ (k : Keys). head_cell k 1 p) c.in-Ok-lay_epoch.ensures.same_keys in (
      head_last (IsHeadOrBlank keys p) (tagging keys) old whole.cells new.cells c.head_cell.result (inr head)
          (laid_then (IsHeadOrBlank keys p) (tagging keys) old mid.cells whole.cells
          (laid_wider (λ bytes. bytes ≡ replicate 128 0) (IsHeadOrBlank keys p) (blank_first keys p) (tagging keys) old mid.cells {T = Unit {0}} {E = Failed} mid.seen (Ok tt) (c.in-Ok.ensures.clear one))
          {T = Unit {0}} {E = Failed} whole.seen (Ok tt) (c.in-Ok-lay_epoch.ensures.clear two))
          (c.write_out.ensures.rest two) new.seen c.write_out.result (c.write_out.ensures.written two) (c.write_out.ensures.refused tells),
      on_ok _ _ c.write_out.result (λ put. put ∙ head) (c.write_out.ensures.written two),
    )

-- ---- the registers' gates

pub returns-clause-gates : goal.returns-clause-gates
returns-clause-gates g c = λ tells.
    let one = c.in-Ok.ensures.serves.tells tells in
    let two = c.in-Ok-lay_epoch.ensures.serves.tells one in
    if_ok _ c.write_out.result
    (gates_formatted (g.S.Store.disk c.lay_registers.new.store).cells (g.S.Store.disk c.lay_epoch.new.store).cells (g.S.Store.disk c.write_out.new.store).cells (c.in-Ok.ensures.gates tells) (c.in-Ok-lay_epoch.ensures.low one)
    (c.in-Ok-lay_epoch.ensures.gates one) (c.write_out.ensures.rest two))
