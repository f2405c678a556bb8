-- Walks over words that a level of a parse reads without a fault.
use Rattle.sand_cli.proofs.Common.{common_steps, arith, ◌≡◌, ◌∙◌, false, cond, List, [], ◌∷◌, ◌++◌, Some, None, sym, ap, ap₂, drop, fold, append_assoc, codes, option_map_or, bytes_eq, bundle_fault, check_fault, defaults_fault, flag_word_fault, level_fault, settle_fault, step_fault, turn_fault, Kinds, or_else, Shape, rows_at, Held, Row, Rule, Step, Walk, after_step, finished, idle, next, nothing_held, option, plain_word, rows_after, settled, walk_from, word_met, Text, conflict_of, task_named, words_of, Task}
use Rattle.std.proofs.lemmas.List.{append-nil}
use Rattle.clap.specs.Lexer.{long_of}
use Rattle.clap.specs.Faults.{walk_fault}
use Rattle.clap.specs.Walk.{walked}
use Rattle.clap.specs.declared.builder.value_parser.Reading.TheVariants.{AsWritten}
use Rattle.clap.specs.declared.parser.matches.ValueSource.TheVariants.{CommandLine}
use Rattle.sand_cli.proofs.Entering.{Accepts}
use Rattle.sand_cli.proofs.NumberTexts.{IsNoOption}

-- the walk before the first word
abbrev pub start : Walk
start = walk_from nothing_held

-- the level reads the words without a fault, and its walk goes from `from` to `to`
pub record Reads (s : Shape) (from : Walk) (words : List Text) (to : Walk) : Type 0 where
  pub walks : (rest : List Text) → fold (walked s.rules []) from (words ++ rest) ≡ fold (walked s.rules []) to rest
  pub passes : (rest : List Text) → walk_fault s [] from (words ++ rest) ≡ walk_fault s [] to rest

pub reads_word : (s : Shape) (from to : Walk) (word : Text)
    → turn_fault s [] from word ≡ [] → walked s.rules [] from word ≡ to
    → Reads s from (word ∷ []) to
unfolding walk_fault
reads_word s from to word passes is = record {
  walks = λ rest. ap (λ w. fold (walked s.rules []) w rest) is;
  passes = λ rest. ap₂ or_else passes (ap (λ w. walk_fault s [] w rest) is);
}

-- one list of words after another
pub reads_both : {s : Shape} {u v w : Walk} {xs ys : List Text} → Reads s u xs v → Reads s v ys w
    → Reads s u (xs ++ ys) w
reads_both {s} {u} {v} {w} {xs} {ys} first second = record {
  walks = λ rest.
      ap (fold (walked s.rules []) u) (append_assoc xs ys rest) ∙ (first.walks (ys ++ rest) ∙ second.walks rest);
  passes = λ rest. ap (walk_fault s [] u) (append_assoc xs ys rest) ∙ (first.passes (ys ++ rest) ∙ second.passes rest);
}

-- one more word
pub reads_then : {s : Shape} {u v : Walk} {xs : List Text}
    → Reads s u xs v → (word : Text) → turn_fault s [] v word ≡ []
    → Reads s u (xs ++ word ∷ []) (walked s.rules [] v word)
reads_then {s} {u} {v} {xs} reads word passes = grind (arith, common_steps, reads_both, reads_word)

-- ---- an option and its value

-- after these rows, the option has its value
abbrev pub given : List Row → Text → Text → Walk
given rows id text = walk_from (record { rows = rows; pending = Some (id, text ∷ []); skip = 0 })

-- and here it waits for it
abbrev awaiting : List Row → Text → Walk
awaiting rows id =
    record (walk_from (record { rows = rows; pending = Some (id, []); skip = 0 })) { waiting = option id }

-- the row of an option given with this value
abbrev pub given_row : Text → Text → Row
given_row id text = record {
  id = id;
  values = text ∷ [];
  count = None;
  source = Some CommandLine;
  reading = AsWritten;
}

-- a text that does not look like an option is the value of the option that waits for one
value_met : (c : List Rule) (id text : Text) (h : Held) → IsNoOption text
    → word_met c [] false (option id) 1 text h ≡ plain_word c (option id) text h
value_met c id text h plain = grind (arith, common_steps)

-- an option that takes one value, followed by that value
pub reads_option : (s : Shape) (from : Walk) (rows : List Row) (id text : Text)
    → turn_fault s [] from (45 ∷ 45 ∷ id) ≡ []
    → walked s.rules [] from (45 ∷ 45 ∷ id) ≡ awaiting rows id
    → plain_word s.rules (option id) text (awaiting rows id).held ≡ ((given rows id text).held, next idle)
    → IsNoOption text
    → Reads s from ((45 ∷ 45 ∷ id) ∷ text ∷ []) (given rows id text)
unfolding walked
reads_option s from rows id text passes is takes plain =
    reads_both (reads_word s from (awaiting rows id) (45 ∷ 45 ∷ id) passes is)
    (reads_word s (awaiting rows id) (given rows id text) text value_passes value_walked)
  where
    met : word_met s.rules [] false (option id) 1 text (awaiting rows id).held ≡ ((given rows id text).held, next idle)
    met = value_met s.rules id text (awaiting rows id).held plain ∙ takes

    value_walked : walked s.rules [] (awaiting rows id) text ≡ given rows id text
    value_walked = ap (λ (m : Held × Step). after_step s.rules text (awaiting rows id) m.0 m.1) met

    word_passes : cond (bytes_eq text (codes "--")) []
        (flag_word_fault s.rules s.args_override_self (long_of text) text (awaiting rows id).held) ≡ []
    word_passes = ap (λ b. cond b []
        (flag_word_fault s.rules s.args_override_self (long_of text) text (awaiting rows id).held)) plain.no_end
        ∙ (ap (λ o. flag_word_fault s.rules s.args_override_self o text (awaiting rows id).held) plain.no_long
        ∙ ap
        (λ o. option_map_or (λ flags. bundle_fault s.rules s.args_override_self flags (awaiting rows id).held) o [])
        plain.no_short)

    value_passes : turn_fault s [] (awaiting rows id) text ≡ []
    value_passes = ap₂ or_else word_passes (ap (λ (m : Held × Step). step_fault s 1 m.0 m.1) met)

-- the option after one whose value is pending
pub reads_next : (s : Shape) (rows : List Row) (before value id text : Text)
    → turn_fault s [] (given rows before value) (45 ∷ 45 ∷ id) ≡ []
    → walked s.rules [] (given rows before value) (45 ∷ 45 ∷ id) ≡ awaiting (rows ++ given_row before value ∷ []) id
    → plain_word s.rules (option id) text (awaiting (rows ++ given_row before value ∷ []) id).held
    ≡ ((given (rows ++ given_row before value ∷ []) id text).held, next idle)
    → IsNoOption text
    → Reads s (given rows before value) ((45 ∷ 45 ∷ id) ∷ text ∷ [])
    (given (rows ++ given_row before value ∷ []) id text)
reads_next s rows before value id text passes is takes plain = grind (arith, common_steps, reads_option)

-- ---- the end

-- the faults at the end of a level
abbrev pub end_fault : Shape → Held → Kinds
end_fault s h = or_else (settle_fault s.rules s.args_override_self h)
    (or_else (defaults_fault (settled s.rules h).rows s.rules) (check_fault s (finished s.rules h) false))

abbrev level_of : Shape → Walk → Kinds → Kinds
level_of s end fault = or_else fault (end_fault s end.held)

-- if the words are read, the only faults of the level are those at its end
pub level_ends : {s : Shape} {words : List Text} {end : Walk} → Reads s start words end
    → level_fault s [] nothing_held words false [] ≡ end_fault s end.held
unfolding walk_fault
level_ends {s} {words} {end} reads =
    let same : words ++ [] ≡ words = append-nil words in
    let walks = ap (fold (walked s.rules []) start) (sym same) ∙ reads.walks [] in
    let passes = ap (walk_fault s [] start) (sym same) ∙ reads.passes [] in
    ap₂ (level_of s) walks passes

-- and its rows are those at its end
pub rows_end : {s : Shape} {words : List Text} {end : Walk} → Reads s start words end
    → rows_after s.rules [] words ≡ finished s.rules end.held
rows_end {s} {words} {end} reads =
    ap (λ (w : Walk). finished s.rules w.held)
    (ap (fold (walked s.rules []) start) (sym (append-nil words)) ∙ reads.walks [])

-- there are none if the last value passes, and nothing is wrong after it
pub end_passes : (s : Shape) (h : Held) → settle_fault s.rules s.args_override_self h ≡ []
    → or_else (defaults_fault (settled s.rules h).rows s.rules) (check_fault s (finished s.rules h) false) ≡ []
    → end_fault s h ≡ []
end_passes s h settles checks = ap₂ or_else settles checks

-- ---- the task

-- the command accepts the words that spell the task, and its options ask for the task and do not conflict
pub record Asks (s : Shape) (task : Task) : Type 0 where
  pub passes : Accepts s (drop 1 (words_of task))
  pub free : conflict_of (rows_at s (drop 1 (words_of task))) ≡ None
  pub reads : task_named (rows_at s (drop 1 (words_of task))) ≡ Some task

pub asks : {s : Shape} {end : Walk} (task : Task) → Reads s start (drop 1 (words_of task)) end
    → end_fault s end.held ≡ [] → conflict_of (s.name, finished s.rules end.held) ≡ None
    → task_named (s.name, finished s.rules end.held) ≡ Some task → Asks s task
asks {s} {end} task reads passes free is = record {
  passes = level_ends reads ∙ passes;
  free = ap (λ rows. conflict_of (s.name, rows)) (rows_end reads) ∙ free;
  reads = ap (λ rows. task_named (s.name, rows)) (rows_end reads) ∙ is;
}
