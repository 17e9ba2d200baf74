-- This project's own: the numbers of an input's file fit the widths that an image has for them.
use Rattle.std.specs.Prelude.{◌<◌, ◌^◌, All, length, IfSome}
use mir.Syntax.{w64}
use mir.Val.{SFits}
use Rattle.lk_report.specs.declared.stamps.Stamp.{Stamp}
use Rattle.lk_model.specs.declared.input_names.InputName.{InputName}
use Rattle.lk_inputs.specs.declared.input_files.InputFile.{InputFile}

-- the number of an input's lib group has 32 bits, the length and the time of its stamp 64
pub record NameFits (name : InputName) : Type 0 where
  pub lib : name.lib < 2 ^ 32
  pub length : IfSome name.stamp (λ (s : Stamp). s.length < 2 ^ 64)
  pub modified : IfSome name.stamp (λ (s : Stamp). SFits w64 s.modified)

-- the content of an input's file is bytes, fewer than 2^32
pub record FileFits (f : InputFile) : Type 0 where
  pub name : NameFits f.name
  pub bytes : All (λ b. b < 256) f.bytes
  pub size : length f.bytes < 2 ^ 32
