-- `use_object` marks the use and takes what the value depends on then. Assumes nothing.
use Rattle.step_name.proofs.Using.{used_as_self, used_as_super, used_as_dollar}
use Rattle.step_name.proofs.use_object.Goals as goal

pub returns-in-This : goal.returns-in-This
returns-in-This c = used_as_self c.touch_object-touched.ensures c.in-This.is

pub returns-in-Super : goal.returns-in-Super
returns-in-Super c = used_as_super c.touch_object-touched.ensures c.in-Super.is

pub returns-in-Dollar : goal.returns-in-Dollar
returns-in-Dollar c = used_as_dollar c.touch_object-touched.ensures c.in-Dollar.is
