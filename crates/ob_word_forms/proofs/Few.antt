-- Where there are fewer words than operands, the last operand is never reached.
use Rattle.std.proofs.Common.{◌≡◌, ◌⊎◌, inl, inr, ◌<◌, ◌≤◌, ◌+◌, ◌&&◌, ◌||◌, if◌then◌else◌, min, not, zero, suc, ℕ, Bool, true, false, List, [], ◌∷◌, ◌++◌, length, Option, Some, None, refl, arith}
use Rattle.std.specs.Prelude.{find, slice_get}
use Rattle.std.specs.Option.{option_map_or}
use Rattle.std.specs.List.{fold, list_any}
use Rattle.std.specs.Str.{bytes_eq, chars}
use Rattle.std.proofs.lemmas.Slice.Eq.{bytes_eq-Decides}
use Rattle.std.proofs.lemmas.Bool.Decides.{nat_tests}
use Rattle.clap.specs.Lexer.{usize_max, long_of, short_of}
use Rattle.clap.specs.Walk.{after_flag, after_step, arg_by_id, arg_by_index, arg_by_long, arg_by_short, at_row, bundle_met, bundle_step, count_of, default_rows, done, finished, flag_met, has_row, Held}
use Rattle.clap.specs.Walk.{idle, is_multiple, is_pending, long_met, long_or_other, more_values, next, new_count, nothing_held, option, option_met, option_word, started, Outcome, plain, plain_word}
use Rattle.clap.specs.Walk.{positional, pushed, reacted, refused, Row, Rule, settled, settled_rows, short_or_plain, Step, subcommand, subcommand_met, takes_several, takes_values, Text, to_positional}
use Rattle.clap.specs.Walk.{trailing, used, used_as, used_by_id, value, values_or_missing, Waiting, waits, Walk, walk_from, walked, with_count, with_default, with_values, without, word_met, action_of}
use Rattle.clap.specs.Walk.{reading_by}
use Rattle.clap.specs.declared.builder.value_parser.Reading.{Reading}
use Rattle.clap.specs.declared.parser.matches.ValueSource.{ValueSource}
use Rattle.clap.specs.declared.parser.matches.ValueSource.TheVariants.{CommandLine, DefaultValue}
use Rattle.clap.specs.declared.builder.ArgAction.{ArgAction}
use Rattle.clap.specs.declared.builder.ArgAction.TheVariants.{Set, SetTrue, SetFalse, Append, Count, Help, HelpShort, HelpLong, Version}
use Rattle.clap.specs.Simple.{Shape}
use Rattle.clap.specs.Takes.{is_given}
use Rattle.clap.specs.Kinds.{Kinds, check_kinds, or_else}
use Rattle.clap.specs.Faults.{check_fault, defaults_fault, level_fault, settle_fault, walk_fault}
use Rattle.ob_word_forms.proofs.Rows.{neither, with_default-none}

-- each rule has another id, or is the operand at place k, with no default
abbrev pub IsOther : Text → ℕ → Rule → Type 0
IsOther id k a = (bytes_eq a.id id ≡ false) ⊎ ((a.index ≡ Some k) × (a.defaults ≡ []))

abbrev pub AreOthers : Text → ℕ → List Rule → Type 0
AreOthers id k [] = Unit {0}
AreOthers id k (a ∷ c) = IsOther id k a × (AreOthers id k c)

-- ---- rows

both_false : (a b : Bool) → a ≡ false → b ≡ false → (a || b) ≡ false
both_false true b x y = cc
both_false false b x y = y

rows_append : (id : Text) (xs ys : List Row) → has_row id xs ≡ false → has_row id ys ≡ false → has_row id (xs ++ ys) ≡ false
rows_append id [] ys hx hy = hy
rows_append id (r ∷ rs) ys hx hy =
    let p = neither (bytes_eq r.id id) (has_row id rs) hx in
    both_false _ _ p.0 (rows_append id rs ys p.1 hy)

at_row_free : (id own : Text) (change : Row → List Row) (missing rows : List Row) → ((r : Row) → bytes_eq r.id id ≡ false → has_row id (change r) ≡ false)
    → has_row id missing ≡ false → has_row id rows ≡ false → has_row id (at_row own change missing rows) ≡ false
at_row_free id own change missing [] changed m free = m
at_row_free id own change missing (r ∷ rs) changed m free =
    let p = neither (bytes_eq r.id id) (has_row id rs) free in
    let late = at_row_free id own change missing rs changed m p.1 in
    go (bytes_eq r.id own) p.0 p.1 late
  where
    go : (t : Bool) → bytes_eq r.id id ≡ false → has_row id rs ≡ false → has_row id (at_row own change missing rs) ≡ false
        → has_row id (if t then change r ++ rs else r ∷ at_row own change missing rs) ≡ false
    go true here rest late = rows_append id (change r) rs (changed r here) rest
    go false here rest late = both_false _ _ here late

one_row : (id : Text) (r : Row) → bytes_eq r.id id ≡ false → has_row id (r ∷ []) ≡ false
one_row id r e = both_false _ _ e refl

with_values_free : (id own : Text) (how : Reading) (from : ValueSource) (values : List Text) (rows : List Row) → bytes_eq own id ≡ false → has_row id rows ≡ false
    → has_row id (with_values own how from values rows) ≡ false
with_values_free id own how from values rows other free =
    at_row_free id own (more_values from values) _ rows (λ r e. both_false (bytes_eq r.id id) false e refl) (both_false (bytes_eq own id) false other refl) free

with_count_free : (id own : Text) (how : Reading) (from : ValueSource) (n : ℕ) (rows : List Row) → bytes_eq own id ≡ false → has_row id rows ≡ false
    → has_row id (with_count own how from n rows) ≡ false
with_count_free id own how from n rows other free =
    at_row_free id own (new_count from n) _ rows (λ r e. both_false (bytes_eq r.id id) false e refl) (both_false (bytes_eq own id) false other refl) free

without_free : (id own : Text) (rows : List Row) → has_row id rows ≡ false → has_row id (without own rows) ≡ false
without_free id own rows free = at_row_free id own (λ _. []) [] rows (λ r e. refl) refl free

used_as_free : (x : ArgAction) (id own : Text) (how : Reading) (values : List Text) (rows : List Row) → bytes_eq own id ≡ false → has_row id rows ≡ false
    → has_row id (used_as x own how values rows) ≡ false
used_as_free Set id own how values rows other free = with_values_free id own how _ values _ other (without_free id own rows free)
used_as_free SetTrue id own how values rows other free = with_values_free id own how _ values _ other (without_free id own rows free)
used_as_free SetFalse id own how values rows other free = with_values_free id own how _ values _ other (without_free id own rows free)
used_as_free Append id own how values rows other free = with_values_free id own how _ values rows other free
used_as_free Count id own how [] rows other free = with_count_free id own how CommandLine (min (count_of own rows + 1) 255) _ other (without_free id own rows free)
used_as_free Count id own how (v ∷ vs) rows other free = with_values_free id own how _ (v ∷ vs) _ other (without_free id own rows free)
used_as_free Help id own how values rows other free = free
used_as_free HelpShort id own how values rows other free = free
used_as_free HelpLong id own how values rows other free = free
used_as_free Version id own how values rows other free = free

used_free : (id : Text) (a : Rule) (values : List Text) (rows : List Row) → bytes_eq a.id id ≡ false → has_row id rows ≡ false
    → has_row id (used a values rows) ≡ false
used_free id a values rows other free = used_as_free (action_of a) id a.id (reading_by a) (values_or_missing a values) rows other free

-- ---- which rule is found

find_passes : (p : Rule → Bool) (c : List Rule) (a : Rule) → find p c ≡ Some a → p a ≡ true
find_passes p [] a e = cc
find_passes p (r ∷ rs) a e = go (p r) refl e (find_passes p rs a)
  where
    go : (t : Bool) → p r ≡ t → (if t then Some r else find p rs) ≡ Some a → (find p rs ≡ Some a → p a ≡ true) → p a ≡ true
    go true t e2 late = let same : r ≡ a = cc in rw (← same) t
    go false t e2 late = late e2

find_other : (id : Text) (k : ℕ) (p : Rule → Bool) (c : List Rule) (a : Rule) → AreOthers id k c → ((r : Rule) → r.index ≡ Some k → p r ≡ false)
    → find p c ≡ Some a → bytes_eq a.id id ≡ false
find_other id k p [] a others never e = cc
find_other id k p (r ∷ rs) a others never e = go (p r) refl e (find_other id k p rs a others.1 never)
  where
    here : IsOther id k r → p r ≡ true → bytes_eq r.id id ≡ false
    here (inl other) t = other
    here (inr place) t = let no = never r place.0 in cc

    go : (t : Bool) → p r ≡ t → (if t then Some r else find p rs) ≡ Some a → (find p rs ≡ Some a → bytes_eq a.id id ≡ false)
        → bytes_eq a.id id ≡ false
    go true t e2 late = let same : r ≡ a = cc in rw (← same) (here others.0 t)
    go false t e2 late = late e2

long_other : (id : Text) (k : ℕ) (c : List Rule) (name : Text) (a : Rule) → AreOthers id k c → arg_by_long c name ≡ Some a → bytes_eq a.id id ≡ false
long_other id k c name a others e = find_other id k _ c a others (λ r h. rw h refl) e

index_other : (id : Text) (k i : ℕ) (c : List Rule) (a : Rule) → AreOthers id k c → i < k → arg_by_index c i ≡ Some a → bytes_eq a.id id ≡ false
index_other id k i c a others lt e = find_other id k _ c a others (λ r h. rw h (grind (arith, nat_tests))) e

id_other : (id own : Text) (c : List Rule) (a : Rule) → bytes_eq own id ≡ false → arg_by_id c own ≡ Some a → bytes_eq a.id id ≡ false
id_other id own c a other e =
    let same : a.id ≡ own = (bytes_eq-Decides a.id own).0 (find_passes _ c a e) in
    rw same other

-- ---- what is held

abbrev pends : Text → Option (Text × List Text) → Bool
pends id pending = option_map_or (λ p. bytes_eq p.0 id) pending false

-- no row and no pending argument has the id
record IsFree (id : Text) (h : Held) : Type 0 where
  rows : has_row id h.rows ≡ false
  pending : pends id h.pending ≡ false

settled_free : (id : Text) (k : ℕ) (c : List Rule) (h : Held) → IsFree id h → has_row id (settled c h).rows ≡ false
settled_free id k c h free = go h.pending free.pending
  where
    used_by : (o : Option Rule) (values : List Text) → ((a : Rule) → o ≡ Some a → bytes_eq a.id id ≡ false)
        → has_row id (used_by_id o values h.rows) ≡ false
    used_by None values other = free.rows
    used_by (Some a) values other = used_free id a values h.rows (other a refl) free.rows

    go : (p : Option (Text × List Text)) → pends id p ≡ false → has_row id (settled_rows c p h.rows) ≡ false
    go None e = free.rows
    go (Some p) e = used_by (arg_by_id c p.0) p.1 (λ a found. id_other id p.0 c a e found)

plain_settled : (id : Text) (k : ℕ) (c : List Rule) (h : Held) → IsFree id h → IsFree id (settled c h)
plain_settled id k c h free = record { rows = settled_free id k c h free; pending = refl }

reacted_free : (id : Text) (k : ℕ) (c : List Rule) (a : Rule) (values : List Text) (h : Held) → bytes_eq a.id id ≡ false → IsFree id h
    → IsFree id (reacted c a values h)
reacted_free id k c a values h other free = record {
  rows = used_free id a values _ other (settled_free id k c h free);
  pending = refl;
}

pushed_free : (id own word : Text) (h : Held) → bytes_eq own id ≡ false → IsFree id h → IsFree id (pushed own word h)
pushed_free id own word h other free = record { rows = free.rows; pending = go h.pending free.pending }
  where
    go : (p : Option (Text × List Text)) → pends id p ≡ false → bytes_eq (started own p).0 id ≡ false
    go None e = other
    go (Some p) e = e

-- ---- a word

abbrev IsFreeWaiting : Text → Waiting → Type 0
IsFreeWaiting id (option own) = bytes_eq own id ≡ false
IsFreeWaiting id _ = Unit {0}

abbrev IsFreeStep : Text → ℕ → Step → Type 0
IsFreeStep id place (next waiting) = IsFreeWaiting id waiting
IsFreeStep id place (trailing p) = p ≡ place
IsFreeStep id place (subcommand name) = ⊥
IsFreeStep id place value = Unit {0}

record IsFreeMet (id : Text) (place : ℕ) (met : Held × Step) : Type 0 where
  held : IsFree id met.0
  step : IsFreeStep id place met.1

plain_word_free : (id : Text) (k place : ℕ) (c : List Rule) (waiting : Waiting) (word : Text) (h : Held) → IsFreeWaiting id waiting → IsFree id h
    → IsFreeMet id place (plain_word c waiting word h)
plain_word_free id k place c idle word h w free = record { held = free; step = tt }
plain_word_free id k place c positional word h w free = record { held = free; step = tt }
plain_word_free id k place c (option own) word h w free = go (arg_by_id c own)
  where
    waits_free : (t : Bool) → IsFreeWaiting id (if t then option own else idle)
    waits_free true = w
    waits_free false = tt

    go : (o : Option Rule) → IsFreeMet id place ((option_word o own word h).0, next (option_word o own word h).1)
    go None = record { held = free; step = w }
    go (Some a) = record { held = pushed_free id own word h w free; step = waits_free _ }

-- the outcomes after which the word is read as no flag
abbrev IsNoFlag : Outcome → Type 0
IsNoFlag plain = Unit {0}
IsNoFlag refused = Unit {0}
IsNoFlag _ = ⊥

-- what a flag came to
record IsFreeFlag (id : Text) (met : Held × Outcome) : Type 0 where
  held : IsFree id met.0
  waiting : (own : Text) → met.1 ≡ waits own → bytes_eq own id ≡ false

after_flag_free : (id : Text) (k place : ℕ) (c : List Rule) (waiting : Waiting) (word : Text) (h : Held) (o : Outcome) → IsFreeWaiting id waiting
    → IsFree id h → ((own : Text) → o ≡ waits own → bytes_eq own id ≡ false) → IsFreeMet id place (after_flag c waiting word h o)
after_flag_free id k place c waiting word h done w free own = record { held = free; step = tt }
after_flag_free id k place c waiting word h (waits x) w free own = record { held = free; step = own x refl }
after_flag_free id k place c waiting word h plain w free own = plain_word_free id k place c waiting word h w free
after_flag_free id k place c waiting word h refused w free own = plain_word_free id k place c waiting word h w free

long_met_free : (id : Text) (k : ℕ) (c : List Rule) (o : Option Rule) (v : Option Text) (h : Held) → ((a : Rule) → o ≡ Some a → bytes_eq a.id id ≡ false)
    → IsFree id h → IsFreeFlag id (long_met c o v h)
long_met_free id k c None v h other free = record { held = free; waiting = λ own e. cc }
long_met_free id k c (Some a) v h other free = go (takes_values a) v
  where
    go : (t : Bool) (w : Option Text) → IsFreeFlag id (if t then option_met c a w h else flag_met c a w h)
    go true (Some x) = record { held = reacted_free id k c a (x ∷ []) h (other a refl) free; waiting = λ own e. cc }
    go true None = record {
      held = record { rows = settled_free id k c h free; pending = other a refl };
      waiting = λ own e. let same : a.id ≡ own = cc in rw (← same) (other a refl);
    }
    go false (Some x) = record { held = free; waiting = λ own e. cc }
    go false None = record { held = reacted_free id k c a [] h (other a refl) free; waiting = λ own e. cc }

-- no argument has a short name
abbrev pub HasNoShorts : List Rule → Type 0
HasNoShorts c = (x : ℕ) → arg_by_short c x ≡ None

bundle_free : (id : Text) (c : List Rule) (n : ℕ) (flags : Text) (skip : ℕ) (h : Held) → HasNoShorts c → IsFree id h
    → IsFreeFlag id (bundle_met c n flags skip plain h)
unfolding bundle_met
bundle_free id c zero flags skip h none free = record { held = free; waiting = λ own e. cc }
bundle_free id c (suc n) flags skip h none free = go (slice_get (chars flags) 0) skip (λ rest less. bundle_free id c n rest less h none free)
  where
    go : (o : Option ℕ) (less : ℕ) → ((rest : Text) (fewer : ℕ) → IsFreeFlag id (bundle_met c n rest fewer plain h))
        → IsFreeFlag id (bundle_step c o flags less plain h (bundle_met c n))
    go None less later = record { held = free; waiting = λ own e. cc }
    go (Some x) zero later = rw (none x) (record { held = free; waiting = λ own e. cc })
    go (Some x) (suc less) later = later _ less

other_free : (id : Text) (k place : ℕ) (c : List Rule) (waiting : Waiting) (word : Text) (h : Held) → AreOthers id k c → HasNoShorts c
    → IsFreeWaiting id waiting → IsFree id h → IsFreeMet id place (long_or_other c waiting word (long_of word) h)
other_free id k place c waiting word h others none w free = go (long_of word)
  where
    short : (s : Option Text) → IsFreeMet id place (short_or_plain c waiting word s h)
    short None = plain_word_free id k place c waiting word h w free
    short (Some flags) =
        let met = bundle_free id c (length flags) flags h.skip (record h { skip = 0 }) none (record { rows = free.rows; pending = free.pending }) in
        after_flag_free id k place c waiting word _ _ w met.held met.waiting

    go : (l : Option (Text × Option Text)) → IsFreeMet id place (long_or_other c waiting word l h)
    go None = short (short_of word)
    go (Some p) =
        let met = long_met_free id k c (arg_by_long c p.0) p.1 h (λ a e. long_other id k c p.0 a others e) free in
        after_flag_free id k place c waiting word _ _ w met.held met.waiting

no_subcommand : (waiting : Waiting) (word : Text) → subcommand_met [] waiting word ≡ None
no_subcommand idle word = refl
no_subcommand (option own) word = refl
no_subcommand positional word = refl

word_free : (id : Text) (k place : ℕ) (c : List Rule) (trail : Bool) (waiting : Waiting) (word : Text) (h : Held) → AreOthers id k c → HasNoShorts c
    → IsFreeWaiting id waiting → IsFree id h → IsFreeMet id place (word_met c [] trail waiting place word h)
word_free id k place c true waiting word h others none w free = record { held = free; step = tt }
word_free id k place c false waiting word h others none w free =
    rw (no_subcommand waiting word) (go (bytes_eq word (45 ∷ 45 ∷ [])))
  where
    go : (t : Bool) → IsFreeMet id place (if t then (h, trailing place) else long_or_other c waiting word (long_of word) h)
    go true = record { held = free; step = refl }
    go false = other_free id k place c waiting word h others none w free

-- ---- a walk of so many words

record IsBefore (id : Text) (most : ℕ) (w : Walk) : Type 0 where
  held : IsFree id w.held
  waiting : IsFreeWaiting id w.waiting
  place : w.position ≤ most
  stopped : w.stopped ≡ None

positional_free : (id : Text) (k most : ℕ) (c : List Rule) (o : Option Rule) (word : Text) (w : Walk) (h : Held) → ((a : Rule) → o ≡ Some a → bytes_eq a.id id ≡ false)
    → IsFree id h → IsFreeWaiting id w.waiting → w.position ≤ most → w.stopped ≡ None → IsBefore id (most + 1) (to_positional c o word w h)
positional_free id k most c None word w h other free wf place stopped =
    record { held = free; waiting = wf; place = omega arith; stopped = stopped }
positional_free id k most c (Some a) word w h other free wf place stopped = record {
  held = pushed_free id a.id word _ (other a refl) (held_at (is_pending a h.pending && takes_several a));
  waiting = waits_at (is_multiple a);
  place = place_at (is_multiple a);
  stopped = refl;
}
  where
    held_at : (t : Bool) → IsFree id (if t then h else settled c h)
    held_at true = free
    held_at false = plain_settled id k c h free

    waits_at : (t : Bool) → IsFreeWaiting id (if t then positional else idle)
    waits_at true = tt
    waits_at false = tt

    place_at : (t : Bool) → (if t then w.position else min (w.position + 1) usize_max) ≤ most + 1
    place_at true = omega arith
    place_at false = omega arith

step_free : (id : Text) (k most : ℕ) (c : List Rule) (word : Text) (w : Walk) (h : Held) (s : Step) → AreOthers id k c → most < k
    → IsFree id h → IsFreeStep id w.position s → IsFreeWaiting id w.waiting → w.position ≤ most → w.stopped ≡ None
    → IsBefore id (most + 1) (after_step c word w h s)
step_free id k most c word w h (next waiting) others few free sf wf place stopped =
    record { held = free; waiting = sf; place = omega arith; stopped = stopped }
step_free id k most c word w h (trailing p) others few free sf wf place stopped =
    record { held = free; waiting = wf; place = omega arith; stopped = stopped }
step_free id k most c word w h (subcommand name) others few free sf wf place stopped = absurd sf
step_free id k most c word w h value others few free sf wf place stopped =
    positional_free id k most c (arg_by_index c w.position) word w h
    (λ a e. index_other id k w.position c a others (omega arith) e) free wf place stopped

walked_free : (id : Text) (k most : ℕ) (c : List Rule) (w : Walk) (word : Text) → AreOthers id k c → HasNoShorts c → most < k
    → IsBefore id most w → IsBefore id (most + 1) (walked c [] w word)
unfolding walked
walked_free id k most c w word others none few before =
    let met = word_free id k w.position c w.is_trailing w.waiting word w.held others none before.waiting before.held in
    rw before.stopped (step_free id k most c word (record w { stopped = None }) _ _ others few met.held met.step before.waiting before.place refl)

walk_free : (id : Text) (k most : ℕ) (c : List Rule) (w : Walk) (words : List Text) → AreOthers id k c → HasNoShorts c → most + length words ≤ k
    → IsBefore id most w → IsBefore id (most + length words) (fold (walked c []) w words)
walk_free id k most c w [] others none few before =
    let same : most + 0 ≡ most = omega arith in rw same before
walk_free id k most c w (word ∷ rest) others none few before =
    let more : most + length (word ∷ rest) ≡ most + 1 + length rest = omega arith in
    rw more (walk_free id k (most + 1) c _ rest others none (omega arith) (walked_free id k most c w word others none (omega arith) before))

-- ---- after the walk

default_free : (id : Text) (k : ℕ) (rows : List Row) (a : Rule) → IsOther id k a → has_row id rows ≡ false → has_row id (with_default rows a) ≡ false
default_free id k rows a (inl other) free = go (has_row a.id rows) a.defaults
  where
    go : (t : Bool) (values : List Text) → has_row id (if t then rows else default_rows a.id (reading_by a) values rows) ≡ false
    go true values = free
    go false [] = free
    go false (v ∷ vs) = with_values_free id a.id (reading_by a) DefaultValue (v ∷ vs) rows other free
default_free id k rows a (inr place) free = rw (with_default-none rows a place.1) free

defaults_free : (id : Text) (k : ℕ) (rows : List Row) (c : List Rule) → AreOthers id k c → has_row id rows ≡ false → has_row id (fold with_default rows c) ≡ false
defaults_free id k rows [] others free = free
defaults_free id k rows (a ∷ c) others free = defaults_free id k (with_default rows a) c others.1 (default_free id k rows a others.0 free)

not_given : (id : Text) (rows : List Row) → has_row id rows ≡ false → is_given id rows ≡ false
not_given id [] free = refl
not_given id (r ∷ rs) free = let p = neither (bytes_eq r.id id) (has_row id rs) free in rw p.0 (not_given id rs p.1)

-- the rule of the id is required
abbrev pub Wants : Text → List Rule → Type 0
Wants id [] = ⊥
Wants id (a ∷ c) = ((a.required ≡ true) × (a.id ≡ id)) ⊎ Wants id c

missing_is : (id : Text) (rows : List Row) (c : List Rule) → Wants id c → is_given id rows ≡ false
    → list_any (λ a. a.required && not (is_given a.id rows)) c ≡ true
missing_is id rows [] wants none = absurd wants
missing_is id rows (a ∷ c) (inl here) none = rw (here.0, here.1, none) refl
missing_is id rows (a ∷ c) (inr later) none = go (a.required && not (is_given a.id rows)) (missing_is id rows c later none)
  where
    go : (t : Bool) → list_any (λ x. x.required && not (is_given x.id rows)) c ≡ true → (t || list_any (λ x. x.required && not (is_given x.id rows)) c) ≡ true
    go true e = refl
    go false e = e

check_fails : (a b : Bool) → check_kinds a b true ≡ [] → ⊥
check_fails true b e = cc
check_fails false true e = cc
check_fails false false e = cc

empty_next : (a b : Kinds) → or_else a b ≡ [] → b ≡ []
empty_next [] b e = e
empty_next (k ∷ ks) b e = cc

-- with fewer words than the operands' last place the parse fails
pub few_fail : (s : Shape) (id : Text) (k : ℕ) (words : List Text) → AreOthers id k s.rules → HasNoShorts s.rules → Wants id s.rules → s.subcommand_negates_reqs ≡ false
    → length words < k → level_fault s [] nothing_held words false [] ≡ [] → ⊥
few_fail s id k words others none wants negates few e =
    let start : IsBefore id 1 (walk_from nothing_held) =
    record { held = record { rows = refl; pending = refl }; waiting = tt; place = omega arith; stopped = refl } in
    let end = walk_free id k 1 s.rules (walk_from nothing_held) words others none (omega arith) start in
    let held = (fold (walked s.rules []) (walk_from nothing_held) words).held in
    let free = defaults_free id k _ s.rules others (settled_free id k s.rules held end.held) in
    let missing = missing_is id (finished s.rules held) s.rules wants (not_given id _ free) in
    let last : check_fault s (finished s.rules held) false ≡ [] =
    empty_next (defaults_fault (settled s.rules held).rows s.rules) _ (empty_next (settle_fault s.rules s.args_override_self held) _
    (empty_next (walk_fault s [] (walk_from nothing_held) words) _ e)) in
    check_fails _ _ (rw (negates, missing) at last)
