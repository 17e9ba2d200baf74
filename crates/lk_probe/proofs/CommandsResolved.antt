-- What is reported of the inputs of a command, and of their resolution, is what is reported of the command.
use Rattle.std.proofs.Common.{◌≡◌, refl, sym, subst, List, Option, Some, None, Result, Ok, Err}
use Rattle.lk_report.specs.FileMap.{FileMap}
use Rattle.lk_report.specs.declared.statuses.Status.{Status}
use Rattle.lk_report.specs.declared.statuses.Status.TheVariants as status
use Rattle.lk_model.specs.declared.commands.Command.{Command}
use Rattle.lk_model.specs.Finding.{Found}
use Rattle.lk_model.specs.Inputs.{inputs_of}
use Rattle.lk_model.specs.Views.{Input}
use Rattle.lk_resolve.specs.Given.{found_in}
use Rattle.lk_resolve.specs.SettleStatuses.{settle_status}
use Rattle.lk_resolve.specs.Settling.{SettleGives, ResolutionValue}
use Rattle.lk_resolve.specs.declared.settle_faults.SettleFault.{SettleFault}
use Rattle.lk_resolve.specs.declared.settle_faults.SettleFault.TheVariants as settle
use Rattle.lk_inputs.specs.declared.inputs.Inputs.{Inputs}
use Rattle.lk_inputs.specs.LookUps.{inputs_limit}
use Rattle.lk_inputs.specs.Refusals.{AreInputs, CommandInputs, IsRefusal, inputs_refusal}
use Rattle.lk_probe.specs.Resolving.{CommandResolves, InputsResolve, IsFirstRefusal, ResolvesAs}

-- ---- inputs that are refused

refused_resolves : (command : Command) (there : FileMap) (due : Option Status) (s : Status) → IsRefusal due s → InputsResolve due command there (Err s)
refused_resolves command there due (status.ReadFault p) h = any due
  where
    any : (o : Option Status) → InputsResolve o command there (Err (status.ReadFault p))
    any None = tt
    any (Some due) = tt
refused_resolves command there due status.NoMemory h = any due
  where
    any : (o : Option Status) → InputsResolve o command there (Err status.NoMemory)
    any None = tt
    any (Some due) = tt
refused_resolves command there due (status.Done how) h = subst (λ o. InputsResolve o command there (Err (status.Done how))) (sym h) refl
refused_resolves command there due (status.LinkError f) h = subst (λ o. InputsResolve o command there (Err (status.LinkError f))) (sym h) refl
refused_resolves command there due (status.Usage u) h = subst (λ o. InputsResolve o command there (Err (status.Usage u))) (sym h) refl
refused_resolves command there due status.DeviceFault h = subst (λ o. InputsResolve o command there (Err status.DeviceFault)) (sym h) refl
refused_resolves command there due (status.Limit l) h = subst (λ o. InputsResolve o command there (Err (status.Limit l))) (sym h) refl
refused_resolves command there due (status.NotUpdated c) h = subst (λ o. InputsResolve o command there (Err (status.NotUpdated c))) (sym h) refl
refused_resolves command there due (status.NotYet w) h = subst (λ o. InputsResolve o command there (Err (status.NotYet w))) (sym h) refl

first_reported : (command : Command) (there : FileMap) (due s : Status) → CommandInputs (Some due) command there (Err s) → IsFirstRefusal due (Err s)
first_reported command there due (status.Done how) h = h
first_reported command there due (status.LinkError f) h = h
first_reported command there due (status.Usage u) h = h
first_reported command there due (status.ReadFault p) h = h
first_reported command there due status.DeviceFault h = h
first_reported command there due status.NoMemory h = tt
first_reported command there due (status.Limit l) h = h
first_reported command there due (status.NotUpdated c) h = h
first_reported command there due (status.NotYet w) h = h

refused_at : (command : Command) (there : FileMap) (o : Option Status) (s : Status) → CommandInputs o command there (Err s) → CommandResolves o command there (Err s)
refused_at command there None s h = refused_resolves command there (inputs_refusal command there) s h
refused_at command there (Some due) s h = first_reported command there due s h

pub inputs_refused : (command : Command) (there : FileMap) (s : Status) (result : Result ResolutionValue Status) → CommandInputs (inputs_limit command) command there (Err s) → result ≡ Err s → CommandResolves (inputs_limit command) command there result
inputs_refused command there s result h is =
    let R : Result ResolutionValue Status → Type 0 = λ r. CommandResolves (inputs_limit command) command there r in
    subst R (sym is) (refused_at command there (inputs_limit command) s h)

-- ---- inputs that are resolved

-- the answer of the resolver, as a status
as_status : Result ResolutionValue SettleFault → Result ResolutionValue Status
as_status (Ok resolution) = Ok resolution
as_status (Err fault) = Err (settle_status fault)

resolves_as : (found : Found) (r : Result ResolutionValue SettleFault) → SettleGives found r → ResolvesAs found (as_status r)
unfolding as_status
resolves_as found (Ok resolution) h = h
resolves_as found (Err (settle.Faults faults)) h = h
resolves_as found (Err (settle.Limit l)) h = h
resolves_as found (Err settle.NoMemory) h = tt

resolved_at : (command : Command) (there : FileMap) (o : Option Status) (inputs : Inputs) (r : Result ResolutionValue SettleFault) → CommandInputs o command there (Ok inputs)
    → ((xs : List Input) → AreInputs xs inputs → SettleGives (found_in command.options.entry xs) r)
    → CommandResolves o command there (as_status r)
resolved_at command there (Some due) inputs r h gives = absurd h
resolved_at command there None inputs r h gives =
    let P : Option Status → Type 0 = λ o. InputsResolve o command there (as_status r) in
    subst P (sym h.0) (resolves_as (found_in command.options.entry (inputs_of command there)) r (gives (inputs_of command there) h.1))

pub resolved : (command : Command) (there : FileMap) (inputs : Inputs) (resolution : ResolutionValue) → CommandInputs (inputs_limit command) command there (Ok inputs)
    → ((xs : List Input) → AreInputs xs inputs → SettleGives (found_in command.options.entry xs) (Ok resolution))
    → CommandResolves (inputs_limit command) command there (Ok resolution)
unfolding as_status
resolved command there inputs resolution h gives = resolved_at command there (inputs_limit command) inputs (Ok resolution) h gives

pub unresolved : (command : Command) (there : FileMap) (inputs : Inputs) (f : SettleFault) (result : Result ResolutionValue Status) → CommandInputs (inputs_limit command) command there (Ok inputs)
    → ((xs : List Input) → AreInputs xs inputs → SettleGives (found_in command.options.entry xs) (Err f))
    → result ≡ Err (settle_status f) → CommandResolves (inputs_limit command) command there result
unfolding as_status
unresolved command there inputs f result h gives is =
    let R : Result ResolutionValue Status → Type 0 = λ r. CommandResolves (inputs_limit command) command there r in
    subst R (sym is) (resolved_at command there (inputs_limit command) inputs (Err f) h gives)
