-- One tape for the other work.
use Rattle.std.specs.Prelude.{◌≡◌, ℕ, ◌+◌, ◌*◌, ◌<◌, List, [], ◌∷◌, map}
use Rattle.std.proofs.Common.{arith, refl, sym, ap, subst, ◌∙◌}
use Rattle.ob_base.specs.declared.params.Params.{Params}
use Rattle.ob_base.specs.Repeats.{Has}
use Rattle.ob_base.specs.Tree.{buckets, width}
use Rattle.ob_deniable.specs.Moved.{PermutesBelow, Undo}
use Rattle.ob_deniable.specs.Telling.{ActFills, IsFormatRanked, fills_of_acts, fills_of_work}
use Rattle.ob_deniable.specs.Works.{LifeWork, Opens, Logs, Shows, Lifts, Ends, VersionSlots, SameShape, AreWritesDrawn, IsLifeOf, Exchange, acts_of, slots_moved, words_moved, IsShown, own_slots}
use Rattle.ob_deniable.proofs.AllSeen.{seen_is_all}
use Rattle.ob_deniable.proofs.EachWork.{lives_are_works}
use Rattle.ob_deniable.proofs.Exchanging.{at_first, lives_exchange}
use Rattle.ob_deniable_runs.specs.RunsDenied.{RunsAreDeniable, work_of}
use Rattle.ob_deniable_runs.specs.Tapes.{ArePutsInTurn, AreVersionsUntied, CouldBeDone, EndsUntied, IsDoneOn, TapesExchange}
use Rattle.ob_deniable_runs.proofs.Agree.{AreActsAgreed, IsAgreedLife, lives_agree}
use Rattle.ob_deniable_runs.proofs.Both.{both, version_ranked, version_untied}
use Rattle.ob_deniable_runs.proofs.Free.{acts_in, first_writes, other_writes, turn_puts}
use Rattle.ob_deniable_runs.proofs.Rows.{Keeps, all_apart, all_blocks, all_has, at_format, formatted, formatted_has}
use Rattle.ob_deniable_runs.proofs.Tape.{block_led, free_led, led_back, led_by}
use Rattle.ob_deniable_runs.proofs.Used.{AreActsIn, labels_used, used_agree}
use Rattle.ob_fresh.specs.Drawn.{AreWordsInTurn, AllDrawNext, formatted_words, words_on}
use Rattle.ob_fresh.proofs.Blocks.{AreApart, Block, IsFree}
use Rattle.ob_tables.specs.Rank.{IsRanking}
use Rattle.ob_recover.specs.Life.{WordId, IsLife, LifeAct, LifeState, formatted_life}
use Rattle.ob_store.specs.Disk.{Disk}

pub own_shape : (work : List LifeWork) → SameShape work work
own_shape [] = tt
own_shape (Opens g ∷ rest) = (refl, own_shape rest)
own_shape (Logs asks first ∷ rest) = ((refl, refl), own_shape rest)
own_shape (Shows ∷ rest) = (tt, own_shape rest)
own_shape (Lifts ∷ rest) = (tt, own_shape rest)
own_shape (Ends ws n ∷ rest) = (refl, own_shape rest)

module _ (p : Params) (tape : WordId → ℕ) (slots : VersionSlots) (one other : List LifeWork) (some : 0 < p.dummies) (done : IsDoneOn p tape slots one) (sh : SameShape one other) (puts : ArePutsInTurn p other) where
  abbrev start : LifeState
  start = formatted_life (slots 0)

  writes : AreWritesDrawn p 1 0 one
  writes = first_writes p tape slots start one done.is_life

  writes_too : AreWritesDrawn p 1 0 other
  writes_too = other_writes p tape slots 0 start (formatted_words p) one other 1 (buckets p * width p) sh (done.turn).behind puts refl refl 0 (omega arith)

  exchange : Exchange p one other
  exchange = (lives_exchange p one other some sh writes writes_too).0

  -- as the exchange moves labels' words and slots
  abbrev moved : WordId → ℕ
  moved = words_moved exchange.ids_back tape

  abbrev slots_then : VersionSlots
  slots_then = slots_moved (exchange.indexes_back tape) slots

  ranked_then : IsFormatRanked p slots_then
  ranked_then u = exchange.rankings tape slots 0 u (done.ranked u)

  life_then : IsLifeOf p moved slots_then other
  life_then = exchange.lives tape slots done.is_life

  fills_then : fills_of_work p tape slots one ≡ fills_of_work p moved slots_then other
  fills_then = seen_is_all p one other tape moved slots slots_then some sh done.ranked ranked_then done.is_life life_then (exchange.same tape slots done.is_life)

  -- the words of each version move within it
  abbrev first_blocks : List Block
  first_blocks = formatted p tape some (slots 0) done.ranked (done.turn).format

  keeps : Keeps p tape start (formatted_words p) first_blocks
  keeps = at_format p tape some (slots 0) done.ranked (done.turn).format

  abbrev all : List Block
  all = all_blocks p tape start (formatted_words p) first_blocks (acts_of 0 slots one)

  apart : AreApart (width p) all
  apart = all_apart p tape some start (formatted_words p) first_blocks (acts_of 0 slots one) done.is_life (done.turn).behind keeps

  abbrev move : Block → ℕ → ℕ
  move b j = exchange.indexes_back tape b.version b.bucket j

  abbrev move_to : Block → ℕ → ℕ
  move_to b j = exchange.indexes tape b.version b.bucket j

  abbrev ids_then : WordId → WordId
  ids_then = led_by (width p) move_to exchange.ids all

  abbrev back_then : WordId → WordId
  back_then = led_by (width p) move exchange.ids_back all

  abbrev other_tape : WordId → ℕ
  other_tape = words_moved back_then tape

  each : (b : Block) → Has all b → (j : ℕ) → j < width p → other_tape (words_on b.first j) ≡ tape (words_on b.first (exchange.indexes_back tape b.version b.bucket j))
  each b h j low = ap tape (block_led (width p) move exchange.ids_back all apart b h j low)

  -- ---- no word that either work uses for a label is one of a version

  abbrev Free : WordId → Type 0
  Free v = IsFree (width p) all v

  used : (to_slots : VersionSlots) → AreActsIn Free (acts_of 0 to_slots other)
  used to_slots = acts_in p tape slots some Free to_slots 0 start (formatted_words p) first_blocks one other 1 (buckets p * width p) sh done.is_life (done.turn).behind keeps puts refl refl (λ v free. free)

  used_first : AreActsIn Free (acts_of 0 own_slots one)
  used_first = acts_in p tape slots some Free own_slots 0 start (formatted_words p) first_blocks one one 1 (buckets p * width p) (own_shape one) done.is_life (done.turn).behind keeps
      (turn_puts p tape slots 0 start (formatted_words p) one (done.turn).behind) refl refl (λ v free. free)

  shown_free : (work : List LifeWork) → AreActsIn Free (acts_of 0 own_slots work) → (v : WordId) → IsShown p work v → Free v
  shown_free work uses v shown = subst Free shown.2 (labels_used Free p (λ w. 0) (formatted_life (own_slots 0)) (acts_of 0 own_slots work) (λ k u e. absurd (cc)) tt uses shown.0 shown.1)

  block_stays : (b : Block) → Has all b → (j : ℕ) → j < width p → exchange.ids (words_on b.first j) ≡ words_on b.first j
  block_stays b h j low = exchange.ids_stay (words_on b.first j) (λ shown. shown_free one used_first (words_on b.first j) shown b h j low refl) (λ shown. shown_free other (used own_slots) (words_on b.first j) shown b h j low refl)

  back_free : (w : WordId) → Free w → Free (exchange.ids_back w)
  back_free w free b h j low e = free b h j low (sym ((exchange.ids_undo).back w) ∙ ap exchange.ids e ∙ block_stays b h j low)

  there_free : (w : WordId) → Free w → Free (exchange.ids w)
  there_free w free b h j low e = free b h j low (sym ((exchange.ids_undo).there w) ∙ ap exchange.ids_back (e ∙ sym (block_stays b h j low)) ∙ (exchange.ids_undo).there (words_on b.first j))

  within : (v u : ℕ) → PermutesBelow (width p) (exchange.indexes tape v u) (exchange.indexes_back tape v u)
  within v u = exchange.indexes_within tape v u

  undo : Undo ids_then back_then
  undo = record {
    there = led_back (width p) all apart move move_to exchange.ids_back exchange.ids (λ b j low. (within b.version b.bucket).to_within j low) (λ b j low. (within b.version b.bucket).there j low) (exchange.ids_undo).there there_free;
    back = led_back (width p) all apart move_to move exchange.ids exchange.ids_back (λ b j low. (within b.version b.bucket).from_within j low) (λ b j low. (within b.version b.bucket).back j low) (exchange.ids_undo).back back_free;
  }

  -- ---- the life, and what it fills

  agreed : AreActsAgreed p moved other_tape (acts_of 0 slots_then other)
  agreed = used_agree Free p moved other_tape (λ v free. ap tape (sym (free_led (width p) move exchange.ids_back all v free))) (acts_of 0 slots_then other) (used slots_then)

  both_lives : IsAgreedLife p moved other_tape (formatted_life (slots_then 0)) (acts_of 0 slots_then other)
  both_lives = lives_agree p moved other_tape (formatted_life (slots_then 0)) (acts_of 0 slots_then other) (λ k v e. absurd (cc)) tt agreed life_then

  same : fills_of_work p tape slots one ≡ fills_of_work p other_tape slots_then other
  same = fills_then ∙ both_lives.1

  -- ---- its words in turn

  walked : AllDrawNext p other_tape (formatted_life (slots_then 0)) (formatted_words p) (acts_of 0 slots_then other) × EndsUntied p other_tape (formatted_life (slots_then 0)) (formatted_words p) (acts_of 0 slots_then other)
  walked = both p some tape other_tape (exchange.indexes tape) (exchange.indexes_back tape) within slots 0 start (formatted_life (slots_then 0)) (formatted_words p) (formatted_words p) first_blocks one other 1 (buckets p * width p) sh
      (at_first p some tape other_tape slots slots_then done.ranked ranked_then) refl refl refl refl refl puts done.is_life both_lives.0 (done.turn).behind (done.untied).ends keeps same each

  words : (u : ℕ) → u < buckets p → (j : ℕ) → j < width p → other_tape (words_on ((formatted_words p).first u) j) ≡ tape (words_on ((formatted_words p).first u) (exchange.indexes_back tape 0 u j))
  words u low j lt =
      each (record { version = 0; bucket = u; first = record { generation = 1; place = u * width p }; slot = slots 0 u })
      (all_has p tape start (formatted_words p) first_blocks (acts_of 0 slots one) (record { version = 0; bucket = u; first = record { generation = 1; place = u * width p }; slot = slots 0 u })
      (formatted_has p tape some (slots 0) done.ranked (done.turn).format u low)) j lt

  could : CouldBeDone p tape other (fills_of_work p tape slots one)
  could = record {
    ids = ids_then;
    ids_back = back_then;
    ids_undo = undo;
    slots = slots_then;
    done = record {
      ranked = ranked_then;
      is_life = both_lives.0;
      turn = record {
        format = λ u low. version_ranked p tape other_tape (exchange.indexes tape 0 u) (exchange.indexes_back tape 0 u) (within 0 u) ((formatted_words p).first u) (words u low) ((done.untied).format u low) (slots 0 u) ((done.turn).format u low);
        behind = walked.0;
      };
      untied = record {
        format = λ u low. version_untied p tape other_tape (exchange.indexes tape 0 u) (exchange.indexes_back tape 0 u) (within 0 u) ((formatted_words p).first u) (words u low) ((done.untied).format u low);
        ends = walked.1;
      };
    };
    same = same;
  }

pub tapes_exchange : TapesExchange
tapes_exchange p tape slots one other some done sh puts = could p tape slots one other some done sh puts

-- ---- runs

same_work : (e : ℕ) (slots : VersionSlots) (work : List LifeWork) → map work_of (acts_of e slots work) ≡ work
same_work e slots [] = refl
same_work e slots (Opens g ∷ rest) = ap (λ (more : List LifeWork). Opens g ∷ more) (same_work e slots rest)
same_work e slots (Logs asks first ∷ rest) = ap (λ (more : List LifeWork). Logs asks first ∷ more) (same_work e slots rest)
same_work e slots (Shows ∷ rest) = ap (λ (more : List LifeWork). Shows ∷ more) (same_work e slots rest)
same_work e slots (Lifts ∷ rest) = ap (λ (more : List LifeWork). Lifts ∷ more) (same_work e slots rest)
same_work e slots (Ends writes drawn ∷ rest) = ap (λ (more : List LifeWork). Ends writes drawn ∷ more) (same_work (e + 1) slots rest)

pub runs_are_deniable : {S : Type 0} (disk : S → Disk) → RunsAreDeniable disk
runs_are_deniable disk keys p drawn parts tape other some given one untied sh puts =
    let work = lives_are_works one.slot one.acts in
    let at : work.1 0 ≡ one.slot = work.2 in
    let are : acts_of 0 work.1 work.0 ≡ one.acts = work.3 in
    let start : formatted_life (work.1 0) ≡ formatted_life one.slot = ap formatted_life at in
    let shape : SameShape work.0 other = subst (λ (w : List LifeWork). SameShape w other) (same_work 0 work.1 work.0) (subst (λ (acts : List LifeAct). SameShape (map work_of acts) other) (sym are) sh) in
    let done : IsDoneOn p tape work.1 work.0 = record {
      ranked = subst (λ (slot : ℕ → ℕ → ℕ). (u : ℕ) → IsRanking (width p) (slot u)) (sym at) one.ranked;
      is_life = subst (λ (s : LifeState). IsLife p tape s (acts_of 0 work.1 work.0)) (sym start) (subst (λ (acts : List LifeAct). IsLife p tape (formatted_life one.slot) acts) (sym are) one.is_life);
      turn = subst (λ (slot : ℕ → ℕ → ℕ). AreWordsInTurn p tape slot (acts_of 0 work.1 work.0)) (sym at) (subst (λ (acts : List LifeAct). AreWordsInTurn p tape one.slot acts) (sym are) (one.turn given));
      untied = subst (λ (slot : ℕ → ℕ → ℕ). AreVersionsUntied p tape slot (acts_of 0 work.1 work.0)) (sym at) (subst (λ (acts : List LifeAct). AreVersionsUntied p tape one.slot acts) (sym are) untied);
    } in
    subst (λ (fills : List ActFills). CouldBeDone p tape other fills) (λ i. fills_of_acts p tape (start i) (are i)) (tapes_exchange p tape work.1 work.0 other some done shape puts)
