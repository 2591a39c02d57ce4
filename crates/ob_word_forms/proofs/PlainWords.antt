-- What a plain word comes to at a command with no subcommand.
use Rattle.std.proofs.Common.{◌≡◌, ◌≢◌, ◌==◌, ℕ, false, List, [], ◌∷◌, None, arith, refl}
use Rattle.std.specs.Option.{option_map_or}
use Rattle.std.proofs.lemmas.Bool.Decides.{nat_tests}
use Rattle.clap.specs.Walk.{Held, Rule, Text, Waiting, Walk, arg_by_id, arg_by_index, idle, next, option, option_word, to_positional, value, walked, word_met}
use Rattle.clap.specs.Simple.{Shape}
use Rattle.clap.specs.Faults.{positional_fault, stray_fault, turn_fault, word_fault}
use Rattle.ob_word_forms.specs.Forms.{IsPlain}

first_is_no_dash : (x : ℕ) → x ≢ 45 → (x == 45) ≡ false
first_is_no_dash x ne = grind (arith, nat_tests)

-- where a walk stands with no value of a positional waiting
abbrev pub at : Held → Waiting → ℕ → Walk
at h waiting i = record { held = h; waiting = waiting; position = i; is_trailing = false; stopped = None }

pub plain_met-idle : (c : List Rule) (i : ℕ) (word : Text) (h : Held) → IsPlain word → word_met c [] false idle i word h ≡ (h, value)
plain_met-idle c i [] h plain = absurd (omega arith)
plain_met-idle c i (x ∷ xs) h plain = let e = first_is_no_dash x plain.1 in simp e

pub plain_met-option : (c : List Rule) (i : ℕ) (id word : Text) (h : Held) → IsPlain word
    → word_met c [] false (option id) i word h ≡ ((option_word (arg_by_id c id) id word h).0, next (option_word (arg_by_id c id) id word h).1)
plain_met-option c i id [] h plain = absurd (omega arith)
plain_met-option c i id (x ∷ xs) h plain = let e = first_is_no_dash x plain.1 in simp e

pub plain_passes : (s : Shape) (word : Text) (h : Held) → IsPlain word → word_fault s [] false idle word h ≡ []
plain_passes s [] h plain = absurd (omega arith)
plain_passes s (x ∷ xs) h plain = let e = first_is_no_dash x plain.1 in simp e

pub plain_passes-option : (s : Shape) (id word : Text) (h : Held) → IsPlain word → word_fault s [] false (option id) word h ≡ []
plain_passes-option s id [] h plain = absurd (omega arith)
plain_passes-option s id (x ∷ xs) h plain = let e = first_is_no_dash x plain.1 in simp e

-- the walk over a plain word, and what its turn may fail by

pub plain_walked-idle : (c : List Rule) (i : ℕ) (word : Text) (h : Held) → IsPlain word
    → walked c [] (at h idle i) word ≡ to_positional c (arg_by_index c i) word (at h idle i) h
unfolding walked
plain_walked-idle c i word h plain = rw (plain_met-idle c i word h plain) refl

pub plain_turn-idle : (s : Shape) (i : ℕ) (word : Text) (h : Held) → IsPlain word
    → turn_fault s [] (at h idle i) word
    ≡ option_map_or (λ a. positional_fault s.rules s.args_override_self a h) (arg_by_index s.rules i) (stray_fault s)
plain_turn-idle s i word h plain = rw (plain_passes s word h plain, plain_met-idle s.rules i word h plain) refl

pub plain_walked-option : (c : List Rule) (i : ℕ) (id word : Text) (h : Held) → IsPlain word
    → walked c [] (at h (option id) i) word
    ≡ at (option_word (arg_by_id c id) id word h).0 (option_word (arg_by_id c id) id word h).1 i
unfolding walked
plain_walked-option c i id word h plain = rw (plain_met-option c i id word h plain) refl

pub plain_turn-option : (s : Shape) (i : ℕ) (id word : Text) (h : Held) → IsPlain word
    → turn_fault s [] (at h (option id) i) word ≡ []
plain_turn-option s i id word h plain = rw (plain_passes-option s id word h plain, plain_met-option s.rules i id word h plain) refl
