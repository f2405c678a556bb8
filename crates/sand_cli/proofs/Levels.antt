-- The commands whose words have numbers ask for the task that their words spell.
use Rattle.sand_cli.proofs.Common.{common_steps, ◌≡◌, ◌≤◌, ℕ, Bool, true, false, not, ◌&&◌, ◌||◌, is_some, if◌then◌else◌, [], ◌∷◌, Option, Some, None, refl, ap, arith, codes, decimal, option_map, Walk, GoTogether, IsDraw, IsRun, draw_by, with_settings, number_of, draw_words, settings_of, Conflict, Uncounted, Task, Drops, Identity, Lab, Multiple}
use Rattle.clap.proofs.OnLiterals.{clap_on_literals}
use Rattle.sand_wish.specs.Plans.{most_droppers, most_drops, most_epochs, most_observers, most_sweeps, most_workers}
use Rattle.sand_cli.specs.declared.task.Draw.{Draw}
use Rattle.sand_cli.specs.declared.task.Form.{Form}
use Rattle.sand_cli.specs.declared.task.Form.TheVariants as forms
use Rattle.sand_cli.specs.declared.task.Part.{Part}
use Rattle.sand_cli.specs.declared.task.Part.TheVariants as parts
use Rattle.sand_wish.specs.declared.wish.Wish.{Wish}
use Rattle.sand_cli.proofs.NumberTexts.{IsText, number_text}
use Rattle.sand_cli.proofs.Walks.{Asks, Reads, asks, end_passes, given, given_row, reads_both, reads_next, reads_option, reads_then, start}
use Rattle.sand_cli.proofs.Within.{drops_built, identity_built, lab_built, multiple_built}

-- ---- `multiple`

module _ (n : ℕ) (times : IsText 18446744073709551615 0 18446744073709551615 n) where
  -- the walk after the number, which is still pending
  past_times : Walk
  past_times = given [] (codes "times") (decimal n)

  times_read : Reads multiple_built start (codes "--times" ∷ decimal n ∷ []) past_times
  unfolding past_times clap_on_literals
  times_read = reads_option multiple_built start [] (codes "times") _ refl refl refl times.no_option

  times_ask : (pgm : Bool) → Asks multiple_built (Multiple n pgm)
  unfolding past_times clap_on_literals
  times_ask pgm = grind (arith, common_steps, asks, reads_then, times_read)

pub multiple_asks : (n : ℕ) → n ≤ 18446744073709551615 → (pgm : Bool) → Asks multiple_built (Multiple n pgm)
multiple_asks n within =
    times_ask n
    (number_text 18446744073709551615 0 18446744073709551615 n (omega arith) within (omega arith) (omega arith))

-- ---- `identity`

module _ (m n : ℕ) (width : IsText 18446744073709551615 1 256 m) (height : IsText 18446744073709551615 1 256 n) where
  -- the walk after both sides; the second is still pending
  past_sides : Walk
  past_sides = given (given_row (codes "width") (decimal m) ∷ []) (codes "height") (decimal n)

  sides_read : Reads identity_built start
      (codes "--width" ∷ decimal m ∷ codes "--height" ∷ decimal n ∷ []) past_sides
  unfolding past_sides clap_on_literals
  sides_read =
      reads_both (reads_option identity_built start [] (codes "width") _ refl refl refl width.no_option)
      (reads_next identity_built _ _ _ (codes "height") _ (rw width.passes refl) refl refl height.no_option)

  sides_ask : (cylinder pgm : Bool) → Asks identity_built (Identity m n cylinder pgm)
  unfolding past_sides clap_on_literals
  sides_ask true true =
      asks _ (reads_then (reads_then sides_read (codes "--cylinder") (rw height.passes refl)) (codes "--pgm") refl)
      refl refl (rw (width.reads, height.reads) refl)
  sides_ask true false =
      asks _ (reads_then sides_read (codes "--cylinder") (rw height.passes refl))
      refl refl (rw (width.reads, height.reads) refl)
  sides_ask false true =
      asks _ (reads_then sides_read (codes "--pgm") (rw height.passes refl))
      refl refl (rw (width.reads, height.reads) refl)
  sides_ask false false =
      asks _ sides_read (rw height.passes refl) refl (rw (width.reads, height.reads) refl)

pub identity_asks : (m n : ℕ) → (1 ≤ m) × (m ≤ 256) × (1 ≤ n) × (n ≤ 256) → (cylinder pgm : Bool)
    → Asks identity_built (Identity m n cylinder pgm)
identity_asks m n (some_wide, wide, some_high, high) =
    sides_ask m n
    (number_text 18446744073709551615 1 256 m some_wide wide (omega arith) (omega arith))
    (number_text 18446744073709551615 1 256 n some_high high (omega arith) (omega arith))

-- ---- `drops` and `lab`, whose numbers have 32 bits

abbrev IsSetting : ℕ → ℕ → ℕ → Type 0
IsSetting least most n = IsText 4294967295 least most n

setting : (least most n : ℕ) → least ≤ n → n ≤ most → most ≤ 4294967295 → IsSetting least most n
setting least most n low high wide = number_text 4294967295 least most n low high wide (omega arith)

-- the number, as an option has it
abbrev read : ℕ → Option ℕ
read n = number_of 4294967295 (decimal n)

module _ (draw : Draw) (count : IsSetting 0 4294967295 draw.count) (seed : IsSetting 0 4294967295 draw.seed)
    (stream : IsSetting 0 4294967295 draw.stream) (from : IsSetting 0 4294967295 draw.from) where
  -- the walk after the numbers of the draw; the last is still pending
  past_draw : Walk
  past_draw = given
      (given_row (codes "count") (decimal draw.count) ∷ given_row (codes "seed") (decimal draw.seed)
      ∷ given_row (codes "stream") (decimal draw.stream) ∷ [])
      (codes "from") (decimal draw.from)

  draw_read : Reads drops_built start (draw_words (Some draw)) past_draw
  unfolding past_draw clap_on_literals
  draw_read =
      reads_both (reads_option drops_built start [] (codes "count") _ refl refl refl count.no_option)
      (reads_both (reads_next drops_built _ _ _ (codes "seed") _ (rw count.passes refl) refl refl seed.no_option)
      (reads_both (reads_next drops_built _ _ _ (codes "stream") _ (rw seed.passes refl) refl refl stream.no_option)
      (reads_next drops_built _ _ _ (codes "from") _ (rw stream.passes refl) refl refl from.no_option)))

  draw_is : draw_by (read draw.count) (read draw.seed) (read draw.stream) (read draw.from) ≡ Some draw
  draw_is = rw (count.reads, seed.reads, stream.reads, from.reads) refl

  -- the conflict, as the count is given or not
  abbrev conflict_by : Option ℕ → Option Conflict
  conflict_by count =
      if not (is_some count) && (is_some (read draw.seed) || is_some (read draw.stream) || is_some (read draw.from))
      then Some Uncounted else None

  draw_is_free : conflict_by (read draw.count) ≡ None
  draw_is_free = ap conflict_by count.reads

  draw_asks : (part : Part) → Asks drops_built (Drops (Some draw) part)
  unfolding past_draw clap_on_literals
  draw_asks parts.All =
      asks _ draw_read (end_passes drops_built past_draw.held (rw from.passes refl) refl)
      draw_is_free (ap (λ d. Some (Drops d parts.All)) draw_is)
  draw_asks parts.Table =
      asks _ (reads_then draw_read (codes "--table") (rw from.passes refl)) refl
      draw_is_free (ap (λ d. Some (Drops d parts.Table)) draw_is)
  draw_asks parts.Pile =
      asks _ (reads_then draw_read (codes "--pile") (rw from.passes refl)) refl
      draw_is_free (ap (λ d. Some (Drops d parts.Pile)) draw_is)

pub drops_asks : (draw : Draw) → IsDraw draw → (part : Part) → Asks drops_built (Drops (Some draw) part)
drops_asks draw within =
    draw_asks draw
    (setting 0 4294967295 draw.count (omega arith) within.count (omega arith))
    (setting 0 4294967295 draw.seed (omega arith) within.seed (omega arith))
    (setting 0 4294967295 draw.stream (omega arith) within.stream (omega arith))
    (setting 0 4294967295 draw.from (omega arith) within.from (omega arith))

module _ (wish : Wish) (seed : IsSetting 0 4294967295 wish.seed) (droppers : IsSetting 1 most_droppers wish.droppers)
    (drops : IsSetting 0 most_drops wish.drops) (epochs : IsSetting 1 most_epochs wish.epochs)
    (workers : IsSetting 1 most_workers wish.workers) (sweeps : IsSetting 0 most_sweeps wish.sweeps)
    (observers : IsSetting 0 most_observers wish.observers) where
  -- the walk after all settings; the last is still pending
  past_settings : Walk
  past_settings = given
      (given_row (codes "seed") (decimal wish.seed) ∷ given_row (codes "droppers") (decimal wish.droppers)
      ∷ given_row (codes "drops") (decimal wish.drops) ∷ given_row (codes "epochs") (decimal wish.epochs)
      ∷ given_row (codes "workers") (decimal wish.workers) ∷ given_row (codes "sweeps") (decimal wish.sweeps) ∷ [])
      (codes "observers") (decimal wish.observers)

  settings_read : Reads lab_built start (settings_of wish) past_settings
  unfolding past_settings clap_on_literals
  settings_read =
      reads_both (reads_option lab_built start [] (codes "seed") _ refl refl refl seed.no_option)
      (reads_both (reads_next lab_built _ _ _ (codes "droppers") _ (rw seed.passes refl) refl refl droppers.no_option)
      (reads_both (reads_next lab_built _ _ _ (codes "drops") _ (rw droppers.passes refl) refl refl drops.no_option)
      (reads_both (reads_next lab_built _ _ _ (codes "epochs") _ (rw drops.passes refl) refl refl epochs.no_option)
      (reads_both (reads_next lab_built _ _ _ (codes "workers") _ (rw epochs.passes refl) refl refl workers.no_option)
      (reads_both (reads_next lab_built _ _ _ (codes "sweeps") _ (rw workers.passes refl) refl refl sweeps.no_option)
      (reads_next lab_built _ _ _ (codes "observers") _ (rw sweeps.passes refl) refl refl observers.no_option))))))

  wish_is : with_settings (read wish.seed) (read wish.droppers) (read wish.drops) (read wish.epochs) (read wish.workers)
      (read wish.sweeps) (read wish.observers) ≡ Some wish
  wish_is = grind (arith, common_steps)

  abbrev task_by : Bool → Form → Option Wish → Option Task
  task_by journal form = option_map (λ w. Lab w journal form)

  settings_ask : (journal : Bool) (form : Form) → GoTogether journal form → Asks lab_built (Lab wish journal form)
  unfolding past_settings clap_on_literals
  settings_ask true forms.Graymap together =
      asks _ (reads_then (reads_then settings_read (codes "--journal") (rw observers.passes refl)) (codes "--pgm") refl)
      refl refl (ap (task_by true forms.Graymap) wish_is)
  settings_ask true forms.Pile together = absurd together
  settings_ask true forms.Text together =
      asks _ (reads_then settings_read (codes "--journal") (rw observers.passes refl))
      refl refl (ap (task_by true forms.Text) wish_is)
  settings_ask false forms.Graymap together =
      asks _ (reads_then settings_read (codes "--pgm") (rw observers.passes refl))
      refl refl (ap (task_by false forms.Graymap) wish_is)
  settings_ask false forms.Pile together =
      asks _ (reads_then settings_read (codes "--pile") (rw observers.passes refl))
      refl refl (ap (task_by false forms.Pile) wish_is)
  settings_ask false forms.Text together =
      asks _ settings_read (end_passes lab_built past_settings.held (rw observers.passes refl) refl)
      refl (ap (task_by false forms.Text) wish_is)

pub lab_asks : (wish : Wish) → IsRun wish → (journal : Bool) (form : Form) → GoTogether journal form
    → Asks lab_built (Lab wish journal form)
lab_asks wish within =
    settings_ask wish
    (setting 0 4294967295 wish.seed (omega arith) within.seed (omega arith))
    (setting 1 most_droppers wish.droppers within.plan.some_droppers within.plan.droppers (omega arith))
    (setting 0 most_drops wish.drops (omega arith) within.plan.drops (omega arith))
    (setting 1 most_epochs wish.epochs within.plan.some_epochs within.plan.epochs (omega arith))
    (setting 1 most_workers wish.workers within.plan.some_workers within.plan.workers (omega arith))
    (setting 0 most_sweeps wish.sweeps (omega arith) within.plan.sweeps (omega arith))
    (setting 0 most_observers wish.observers (omega arith) within.plan.observers (omega arith))
