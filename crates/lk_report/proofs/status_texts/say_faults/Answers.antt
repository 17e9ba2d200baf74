use Rattle.std.proofs.Common.{◌≡◌, ◌∙◌, ◌+◌, ◌<◌, ◌++◌, [], ◌∷◌, ℕ, List, ap, length, take, get_or, sym, append-nil}
use Rattle.std.proofs.lemmas.List.{take_more, take_all}
use Rattle.std.proofs.lemmas.Grind.{flat_map-append}
use Rattle.std.specs.List.{flat_map}
use Rattle.lk_report.specs.declared.faults.Fault.{Fault}
use Rattle.lk_report.specs.Texts.{fault_line}
use Rattle.lk_report.proofs.PartByPart.{◌▸◌, silent}
use Rattle.lk_report.proofs.status_texts.say_faults.Goals as goal

-- the lines of one fault more
one_more : (xs : List Fault) (i : ℕ) (x : Fault) → i < length xs → x ≡ get_or xs i x → flat_map fault_line (take i xs) ++ fault_line x ≡ flat_map fault_line (take (i + 1) xs)
one_more xs i x h e =
    let last : fault_line x ≡ flat_map fault_line (get_or xs i x ∷ []) = ap fault_line e ∙ sym (append-nil (fault_line (get_or xs i x))) in
    ap (λ s. flat_map fault_line (take i xs) ++ s) last
    ∙ sym (flat_map-append fault_line (take i xs) (get_or xs i x ∷ []))
    ∙ ap (flat_map fault_line) (sym (take_more xs i x h))

pub loop-fault-init : goal.loop-fault-init
loop-fault-init g c = silent _ _

pub loop-fault-preserved : goal.loop-fault-preserved
loop-fault-preserved g c =
    rw (← one_more c.args.faults.now c.loop-fault.fault-index c.fault-item.result c.loop-fault-test.true c.fault-item.is)
    (c.loop-fault.invariant ▸ c.say_fault_line-progress.ensures)

pub returns : goal.returns
returns g c = rw (take_all c.loop-fault.fault-index c.args.faults.now c.loop-fault-test.false) at c.loop-fault.invariant
