-- The mark that a walk carries.
use Rattle.terms.specs.declared.strict.StrictNorm.{StrictNorm}
use Rattle.terms.specs.declared.strict.StrictNorm.TheVariants.{Pull, Push, Strip}

-- Strict turns Pull into Push
abbrev pub pushed : StrictNorm → StrictNorm
pushed Pull = Push
pushed Push = Push
pushed Strip = Strip

-- the running mark behind a child: Strip behind one that is wrapped, and behind one that is back with Strip
abbrev pub running : (run child : StrictNorm) → StrictNorm
running Pull Pull = Pull
running Pull Push = Strip
running Pull Strip = Strip
running Push Pull = Push
running Push Push = Push
running Push Strip = Strip
running Strip m = Strip
