-- Worked examples: words and the command that they are, and each fault of words once.
use Rattle.std.specs.Prelude.{◌≡◌, true, false, [], ◌∷◌, ◌++◌, codes, Some, None, Ok, Err, refl}
use Rattle.lk_report.specs.declared.faults.UsageFault.TheVariants.{UnknownWord, MissingValue, BadNumber, OpenLib, NestedLib, NoLibOpen, TwoOutputs, NoInput}
use Rattle.lk_model.specs.declared.commands.Item.TheVariants.{One, Lib}
use Rattle.lk_model.specs.declared.commands.Mark.TheVariants.{Unknown, Changed, Unchanged}
use Rattle.lk_model.specs.declared.commands.Mode.TheVariants.{Full, Update, Either}
use Rattle.lk_model.specs.Grammar.{phrase_checks, with_input, put_word, whole_words, beginnings, meaning_of, phrases_from, checks_after, options_of, command_of, usage_checks, grammar, output_of_words}

-- each fault of words
usage_faults :
    (grammar (codes "-o" ∷ codes "out" ∷ []) ≡ Err NoInput)
    × (grammar (codes "--start-lib" ∷ codes "a.o" ∷ []) ≡ Err (OpenLib 1))
    × (grammar (codes "--thread-count" ∷ codes "17" ∷ codes "a.o" ∷ []) ≡ Err (BadNumber 2))
    × (grammar (codes "-o" ∷ codes "a" ∷ codes "-o" ∷ codes "b" ∷ codes "c.o" ∷ []) ≡ Err (TwoOutputs 3))
    × (grammar [] ≡ Err NoInput)
    × (grammar (codes "a.o" ∷ codes "-x" ∷ []) ≡ Err (UnknownWord 2))
    × (grammar (codes "a.o" ∷ [] ∷ codes "b.o" ∷ []) ≡ Err (UnknownWord 2))
    × (grammar (codes "-" ∷ []) ≡ Err (UnknownWord 1))
    × (grammar (codes "--entry" ∷ codes "f" ∷ codes "a.o" ∷ []) ≡ Err (UnknownWord 1))
    × (grammar (codes "-oout" ∷ codes "a.o" ∷ []) ≡ Err (UnknownWord 1))
    × (grammar (codes "--thread-count=4" ∷ codes "a.o" ∷ []) ≡ Err (UnknownWord 1))
    × (grammar (codes "-dynamic-linker=x" ∷ codes "a.o" ∷ []) ≡ Err (UnknownWord 1))
    × (grammar (codes "--dynamic-linker" ∷ codes "x" ∷ codes "a.o" ∷ []) ≡ Err (UnknownWord 1))
    × (grammar (codes "-m" ∷ codes "elf_i386" ∷ codes "a.o" ∷ []) ≡ Err (UnknownWord 2))
    × (grammar ((codes "a.o" ++ 0 ∷ []) ∷ []) ≡ Err (UnknownWord 1))
    × (grammar (codes "-e" ∷ (0 ∷ []) ∷ []) ≡ Err (UnknownWord 2))
    × (grammar (codes "--thread-count" ∷ (codes "99" ++ 0 ∷ []) ∷ []) ≡ Err (UnknownWord 2))
    × (grammar (codes "a.o" ∷ codes "-e" ∷ []) ≡ Err (MissingValue 2))
    × (grammar (codes "-e" ∷ [] ∷ codes "a.o" ∷ []) ≡ Err (MissingValue 1))
    × (grammar (codes "--entry=" ∷ codes "a.o" ∷ []) ≡ Err (MissingValue 1))
    × (grammar (codes "--incremental-patch=" ∷ codes "a.o" ∷ []) ≡ Err (MissingValue 1))
    × (grammar (codes "-o" ∷ codes "a" ∷ codes "-o" ∷ []) ≡ Err (MissingValue 3))
    × (grammar (codes "-o" ∷ codes "a" ∷ codes "-o" ∷ [] ∷ codes "c.o" ∷ []) ≡ Err (MissingValue 3))
    × (grammar (codes "--incremental-patch=501" ∷ codes "a.o" ∷ []) ≡ Err (BadNumber 1))
    × (grammar (codes "--incremental-patch=00010" ∷ codes "a.o" ∷ []) ≡ Err (BadNumber 1))
    × (grammar (codes "--incremental-patch=1x" ∷ codes "a.o" ∷ []) ≡ Err (BadNumber 1))
    × (grammar (codes "--thread-count" ∷ codes "0" ∷ codes "a.o" ∷ []) ≡ Err (BadNumber 2))
    × (grammar (codes "--thread-count" ∷ codes "-o" ∷ codes "a.o" ∷ []) ≡ Err (BadNumber 2))
    × (grammar (codes "--start-lib" ∷ codes "--start-lib" ∷ []) ≡ Err (NestedLib 2))
    × (grammar (codes "a.o" ∷ codes "--end-lib" ∷ []) ≡ Err (NoLibOpen 2))
    × (grammar (codes "--start-lib" ∷ codes "--end-lib" ∷ codes "--end-lib" ∷ []) ≡ Err (NoLibOpen 3))
    × (grammar (codes "a.o" ∷ codes "--start-lib" ∷ codes "b.o" ∷ []) ≡ Err (OpenLib 2))
    × (grammar (codes "--start-lib" ∷ []) ≡ Err (OpenLib 1))
    × (grammar (codes "--start-lib" ∷ codes "--end-lib" ∷ []) ≡ Err NoInput)
    × (grammar (codes "--thread-count" ∷ codes "17" ∷ codes "-o" ∷ codes "a" ∷ codes "-o" ∷ codes "b" ∷ []) ≡ Err (BadNumber 2))
    × (grammar (codes "-o" ∷ codes "a" ∷ codes "-o" ∷ (0 ∷ []) ∷ []) ≡ Err (TwoOutputs 3))
unfolding phrase_checks with_input put_word whole_words beginnings meaning_of phrases_from checks_after options_of command_of usage_checks grammar output_of_words
usage_faults = (refl, refl, refl, refl, refl, refl, refl, refl, refl, refl, refl, refl, refl, refl, refl, refl, refl, refl, refl, refl, refl, refl, refl, refl, refl, refl, refl, refl, refl, refl, refl, refl, refl, refl, refl, refl)

-- one input, and nothing else
one_input :
    grammar (codes "a.o" ∷ []) ≡ Ok (record {
      output = codes "a.out";
      mode = Full;
      base = None;
      options = record { entry = codes "_start"; interp = []; runpath = []; patch = 10; export_dynamic = false; dynamic = false };
      dirs = [];
      items = One (record { text = codes "a.o"; library = false; mark = Unknown }) ∷ [];
      workers = 4;
    })
unfolding phrase_checks with_input put_word whole_words beginnings meaning_of phrases_from checks_after options_of command_of usage_checks grammar output_of_words
one_input = refl

-- words with everything
all_words :
    grammar (codes "-o" ∷ codes "-o" ∷ codes "-e" ∷ codes "main" ∷ codes "-L" ∷ codes "d1" ∷ codes "a.o" ∷ codes "-Ld2" ∷ codes "--incremental-changed" ∷ codes "-l" ∷ codes "m" ∷ codes "-lc" ∷ codes "-dynamic-linker" ∷ codes "/l" ∷ codes "-rpath" ∷ codes "/r" ∷ codes "-rpath=/s" ∷ codes "--export-dynamic" ∷ codes "-m" ∷ codes "elf_x86_64" ∷ codes "--incremental" ∷ codes "--incremental-base=old" ∷ codes "--incremental-patch=0500" ∷ codes "--thread-count" ∷ codes "16" ∷ codes "--start-lib" ∷ codes "b.o" ∷ codes "--incremental-unchanged" ∷ codes "c.o" ∷ codes "--end-lib" ∷ codes "--incremental-unknown" ∷ codes "d.o" ∷ codes "--start-lib" ∷ codes "--end-lib" ∷ codes "a.o" ∷ []) ≡ Ok (record {
      output = codes "-o";
      mode = Either;
      base = Some (codes "old");
      options = record { entry = codes "main"; interp = codes "/l"; runpath = codes "/r:/s"; patch = 500; export_dynamic = true; dynamic = false };
      dirs = codes "d1" ∷ codes "d2" ∷ [];
      items = One (record { text = codes "a.o"; library = false; mark = Unknown })
          ∷ One (record { text = codes "m"; library = true; mark = Changed })
          ∷ One (record { text = codes "c"; library = true; mark = Changed })
          ∷ Lib ((record { text = codes "b.o"; library = false; mark = Changed }) ∷ (record { text = codes "c.o"; library = false; mark = Unchanged }) ∷ [])
          ∷ One (record { text = codes "d.o"; library = false; mark = Unknown })
          ∷ Lib []
          ∷ One (record { text = codes "a.o"; library = false; mark = Unknown }) ∷ [];
      workers = 16;
    })
unfolding phrase_checks with_input put_word whole_words beginnings meaning_of phrases_from checks_after options_of command_of usage_checks grammar output_of_words
all_words = refl

-- the last of repeated words counts; a base that is the output is none
last_words :
    (grammar (codes "--incremental-base=out" ∷ codes "--entry=f" ∷ codes "-e" ∷ codes "g" ∷ codes "--incremental-update" ∷ codes "--incremental-full" ∷ codes "--no-threads" ∷ codes "a.o" ∷ codes "-o" ∷ codes "out" ∷ codes "--incremental-patch=1" ∷ codes "--incremental-patch=2" ∷ codes "-dynamic-linker" ∷ codes "x" ∷ codes "--dynamic-linker=y" ∷ []) ≡ Ok (record {
      output = codes "out";
      mode = Full;
      base = None;
      options = record { entry = codes "g"; interp = codes "y"; runpath = []; patch = 2; export_dynamic = false; dynamic = false };
      dirs = [];
      items = One (record { text = codes "a.o"; library = false; mark = Unknown }) ∷ [];
      workers = 1;
    }))
    × (grammar (codes "--no-threads" ∷ codes "--threads" ∷ codes "a.o" ∷ codes "--incremental-base=a" ∷ codes "--incremental-base=b" ∷ codes "--incremental-update" ∷ []) ≡ Ok (record {
      output = codes "a.out";
      mode = Update;
      base = Some (codes "b");
      options = record { entry = codes "_start"; interp = []; runpath = []; patch = 10; export_dynamic = false; dynamic = false };
      dirs = [];
      items = One (record { text = codes "a.o"; library = false; mark = Unknown }) ∷ [];
      workers = 4;
    }))
unfolding phrase_checks with_input put_word whole_words beginnings meaning_of phrases_from checks_after options_of command_of usage_checks grammar output_of_words
last_words = (refl, refl)

-- the output of words, also of refused ones
outputs :
    (output_of_words (codes "a.o" ∷ codes "-o" ∷ codes "out" ∷ []) ≡ codes "out")
    × (output_of_words (codes "a.o" ∷ []) ≡ codes "a.out")
    × (output_of_words (codes "-o" ∷ codes "out" ∷ []) ≡ codes "a.out")
unfolding phrase_checks with_input put_word whole_words beginnings meaning_of phrases_from checks_after options_of command_of usage_checks grammar output_of_words
outputs = (refl, refl, refl)
