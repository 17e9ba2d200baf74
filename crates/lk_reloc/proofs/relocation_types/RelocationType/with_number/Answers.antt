use Rattle.std.proofs.Common.{rules}
use Rattle.lk_model.specs.RelocationTypes.{relocation_types}
use Rattle.lk_reloc.proofs.TypesFound.{no_type}
use Rattle.lk_reloc.proofs.relocation_types.RelocationType.with_number.Goals as goal

pub returns-in_default : goal.returns-in_default
unfolding relocation_types
returns-in_default c = no_type c.args.r_type (search rules)
