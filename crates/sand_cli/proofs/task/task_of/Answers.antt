use Rattle.sand_cli.proofs.Common.{◌≡◌, ◌∙◌, None, Some, ap, subst, sym, option_and_then, IsWithin, conflict_of, task_named}
use Rattle.std.proofs.lemmas.Result.{err_from_is_err_and}
use Rattle.sand_cli.proofs.Spelled.{heeds_by_fault, heeds_by_task}
use Rattle.sand_cli.proofs.Taken.{fails_by_kind, names, refused_ask_nothing, shows_help, taken, taken_are_sound, taken_ask, tells_nothing}
use Rattle.sand_cli.specs.declared.fault.WordsFault.TheVariants.{Clash}
use Rattle.sand_cli.proofs.task.task_of.Goals as goal

pub returns-in_err-matches : goal.returns-in_err-matches
returns-in_err-matches c =
    let fault = err_from_is_err_and c.from_residual-in_err-matches.result c.from_residual-in_err-matches.ensures.1 in
    let kinds = fails_by_kind _ _ _ fault.0 c.in_ok-command.ensures c.in_err-matches.ensures.kinds fault.2 in
    let told = tells_nothing _ _ fault.0 fault.2 in
    let nothing = refused_ask_nothing _ fault.0 kinds told in
    rw fault.1 (record {
      ok = tt;
      spelled = heeds_by_fault _ fault.0 nothing;
      limits = tt;
      refused = nothing;
      kind = kinds;
      clash = told;
      help = shows_help _ fault.0 kinds;
    })

pub returns-in-Some : goal.returns-in-Some
returns-in-Some c =
    let none = taken _ _ c.in_ok-command.ensures c.in_ok-matches.ensures.kinds in
    let named = names _ _ _ c.in_ok-command.ensures c.in_ok-matches.ensures.matches in
    let told = sym (ap (option_and_then conflict_of) named) ∙ (sym c.conflict_among.ensures ∙ c.in-Some.is) in
    let nothing = refused_ask_nothing _ (Clash c.in-Some.conflict) none told in
    record {
      ok = tt;
      spelled = heeds_by_fault _ (Clash c.in-Some.conflict) nothing;
      limits = tt;
      refused = nothing;
      kind = none;
      clash = told;
      help = shows_help _ (Clash c.in-Some.conflict) none;
    }

pub unreachable-requires : goal.unreachable-requires
unreachable-requires c =
    let none = taken _ _ c.in_ok-command.ensures c.in_ok-matches.ensures.kinds in
    let named = names _ _ _ c.in_ok-command.ensures c.in_ok-matches.ensures.matches in
    let free = sym (ap (option_and_then conflict_of) named) ∙ (sym c.conflict_among.ensures ∙ c.in-None.is) in
    let sound = taken_are_sound _ none free in
    let bad : None ≡ Some sound.0 =
    sym c.in-None-chosen.is ∙ (c.chosen.ensures ∙ (ap (option_and_then task_named) named ∙ sound.1)) in
    cc

pub returns-in-Some-chosen : goal.returns-in-Some-chosen
returns-in-Some-chosen c =
    let none = taken _ _ c.in_ok-command.ensures c.in_ok-matches.ensures.kinds in
    let named = names _ _ _ c.in_ok-command.ensures c.in_ok-matches.ensures.matches in
    let free = sym (ap (option_and_then conflict_of) named) ∙ (sym c.conflict_among.ensures ∙ c.in-None.is) in
    let sound = taken_are_sound _ none free in
    let chosen_is = sym (ap (option_and_then task_named) named) ∙ (sym c.chosen.ensures ∙ c.in-Some-chosen.is) in
    let same : Some sound.0 ≡ Some c.in-Some-chosen.task = sym sound.1 ∙ chosen_is in
    let task_is : sound.0 ≡ c.in-Some-chosen.task = cc in
    let is = taken_ask _ none free ∙ chosen_is in
    record {
      ok = is;
      spelled = heeds_by_task _ _ is;
      limits = subst IsWithin task_is sound.2;
      refused = tt;
      kind = tt;
      clash = tt;
      help = tt;
    }
